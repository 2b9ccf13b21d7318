use Rattle.std.proofs.Common.{take, sym, ap, ◌∙◌, insert}
use Rattle.segment_postings.specs.Terms.{PastAll}
use Rattle.segment_postings.proofs.Joining.{past_at, past_stays, there_at, inserted_at, take_all}
use Rattle.segment_postings.proofs.terms.put.Goals as goal
use Rattle.segment_postings.proofs.terms.put.Goals.{Then-at-most}

past : (c : Then-at-most) → PastAll c.args.found.now.items c.args.key.now c.args.most
past c = past_at c.deref.result.now c.args.found.now.items c.position-at.result c.args.most c.args.key.now c.deref.ensures.value c.position-at.ensures.before c.requires.few c.if-at-most.true c.position-at.ensures.within

pub returns-then-at-most-clause-found : goal.returns-then-at-most-clause-found
returns-then-at-most-clause-found c = sym (past_stays c.args.most c.args.found.now.items c.args.key.now c.requires.few (past c))

pub returns-then-at-most-clause-past : goal.returns-then-at-most-clause-past
returns-then-at-most-clause-past c = λ _. past c

pub returns-then-begins_with-clause-found : goal.returns-then-begins_with-clause-found
returns-then-begins_with-clause-found c =
    sym (take_all c.args.most c.args.found.now.items c.requires.few)
    ∙ ap (take c.args.most) (sym (there_at c.deref.result.now c.deref-2.result.now c.args.found.now.items c.position-at.result c.args.key.now c.deref.ensures.value c.deref-2.ensures.value c.position-at.ensures.before (sym c.if-begins_with.ensures)))

pub returns-clause-found : goal.returns-clause-found
returns-clause-found c =
    c.truncate.ensures.items
    ∙ ap (take c.args.most) (c.in_ok-insert.ensures.items ∙ ap (λ k. insert c.args.found.now.items c.position-at.result k) c.in_ok-copy.ensures
    ∙ sym (inserted_at c.deref.result.now c.deref-2.result.now c.args.found.now.items c.position-at.result c.args.key.now c.deref.ensures.value c.deref-2.ensures.value c.position-at.ensures.before c.position-at.ensures.behind (sym c.if-begins_with.ensures)))
