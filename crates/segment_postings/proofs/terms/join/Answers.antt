use Rattle.std.proofs.Common.{◌<◌, length, take, map, fold, sym, ap, subst, ◌∙◌, arith}
use Rattle.segment_postings.specs.Terms.{Ascending, put_key}
use Rattle.segment_postings.proofs.Joining.{take_all, take_step, fold_more, past_from, past_stays, Ascending-put, Ascending-take}
use Rattle.segment_postings.proofs.terms.join.Goals as goal

pub loop-term-init : goal.loop-term-init
loop-term-init c = record {
  is = sym (take_all c.args.most c.args.found.now.items c.requires.few);
  ascending = c.requires.ascending;
  few = c.requires.few;
}

pub loop-term-preserved : goal.loop-term-preserved
loop-term-preserved c =
    let within : c.loop-term.term-index < length c.args.terms.now = omega arith in
    let o = c.term-item.result in
    record {
      is = c.in_ok-put.ensures.found ∙ take_step c.args.most c.loop-term.found.items (fold put_key c.args.found.now.items (map (λ t. t.key) (take c.loop-term.term-index c.args.terms.now))) o.key c.loop-term.invariant.is
          ∙ ap (take c.args.most) (fold_more (λ t. t.key) c.args.found.now.items c.args.terms.now c.loop-term.term-index o within c.term-item.is);
      ascending = subst Ascending (sym c.in_ok-put.ensures.found) (Ascending-take c.args.most _ (Ascending-put c.loop-term.found.items o.key c.loop-term.invariant.ascending));
      few = c.in_ok-put.ensures.few;
    }

pub returns-then-not-branch : goal.returns-then-not-branch
returns-then-not-branch c =
    let within : c.loop-term.term-index < length c.args.terms.now = omega arith in
    let o = c.term-item.result in
    let inv = c.loop-term.invariant in
    let past = c.in_ok-put.ensures.past c.if-not-branch.true in
    let same = c.in_ok-put.ensures.found ∙ past_stays c.args.most c.loop-term.found.items o.key inv.few past in
    record {
      found = same ∙ past_from (λ t. t.key) c.args.found.now.items c.loop-term.found.items c.args.terms.now c.loop-term.term-index c.args.most o c.requires.sorted within c.term-item.is inv.is inv.few past;
      ascending = subst Ascending (sym same) inv.ascending;
      few = c.in_ok-put.ensures.few;
    }

pub returns : goal.returns
returns c =
    let inv = c.loop-term.invariant in
    record {
      found = inv.is ∙ ap (λ os. take c.args.most (fold put_key c.args.found.now.items (map (λ t. t.key) os))) (take_all c.loop-term.term-index c.args.terms.now c.loop-term-test.false);
      ascending = inv.ascending;
      few = inv.few;
    }
