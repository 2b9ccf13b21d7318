use Rattle.std.proofs.Common.{ℕ, List, ◌<◌, ◌≤◌, length, sym, ap, subst, ◌∙◌, arith}
use Rattle.std.specs.Ordering.{nat_cmp}
use Rattle.std.specs.FinSet.{from_list}
use Rattle.std.proofs.lemmas.Result.{IfOk-weaker}
use Rattle.field_schema.specs.declared.key.Key.TheVariants as key
use Rattle.doc_sets.specs.Sets.{Numbers, AreDocuments}
use Rattle.segment_postings.specs.Numbered.{Numbered}
use Rattle.segment_postings.specs.Positions.{positions_of}
use Rattle.query_eval.proofs.Loops.{kept_on}
use Rattle.query_eval.proofs.PhraseSteps.{says_words, first_word, next_word, last_word, no_words}
use Rattle.query_eval.proofs.PositionWalks.{held_rise, next_rise}
use Rattle.query_eval.proofs.Steps.{found_documents}
use Rattle.query_eval.proofs.phrase.in_turn.Goals as goal

pub returns-in_default-clause-found : goal.returns-in_default-clause-found
returns-in_default-clause-found g c = no_words (g.P.Reads.view c.args.probe.now) c.args.field c.args.words.now c.new.result c.in_default.ensures.cases c.new.ensures

pub loop-i-init : goal.loop-i-init
loop-i-init g c = (
  first_word (g.P.Reads.view c.args.probe.now) c.args.field c.args.words.now c.in-Some.first.now c.in-Some.others.now c.in_ok-held.held.items c.in-Some.ensures.cases.0 c.in_ok-held.ensures.found,
  c.word.ensures.kept,
)

pub followed-requires-clause-held_rise : goal.followed-requires-clause-held_rise
followed-requires-clause-held_rise g c =
    held_rise (g.P.Reads.view c.args.probe.now) c.args.field c.args.words.now c.loop-i.i c.as_slice.result.now c.requires (c.as_slice.ensures.value ∙ c.loop-i.invariant.0)

pub followed-requires-clause-next_rise : goal.followed-requires-clause-next_rise
followed-requires-clause-next_rise g c =
    next_rise (g.P.Reads.view c.args.probe.now) c.args.field c.index-others-i.result c.as_slice-in-loop-i.result.now c.requires
    (c.as_slice-in-loop-i.ensures.value ∙ c.in_ok-next.ensures.found ∙ ap (λ (v : Numbered). positions_of v c.args.field (key.Token c.index-others-i.result)) c.loop-i.invariant.1.view)

pub loop-i-preserved : goal.loop-i-preserved
loop-i-preserved g c =
    let within : c.loop-i.i < length c.in-Some.others.now = omega arith in (
      next_word (g.P.Reads.view c.args.probe.now) c.args.field c.args.words.now c.in-Some.first.now c.in-Some.others.now c.loop-i.i c.index-others-i.result
          c.as_slice.result.now c.as_slice-in-loop-i.result.now c.in_ok-held-2.held.items c.requires c.in-Some.ensures.cases.0 within c.index-others-i.is
          (c.as_slice.ensures.value ∙ c.loop-i.invariant.0)
          (c.as_slice-in-loop-i.ensures.value ∙ c.in_ok-next.ensures.found ∙ ap (λ (v : Numbered). positions_of v c.args.field (key.Token c.index-others-i.result)) c.loop-i.invariant.1.view)
          c.in_ok-held-2.ensures,
      kept_on g.P.Reads.view g.P.Reads.terms g.P.Reads.counted c.args.probe.now c.loop-i.probe c.word-in-loop-i.new.probe c.loop-i.invariant.1 c.word-in-loop-i.ensures.kept,
    )

pub set_of-requires : goal.set_of-requires
set_of-requires g c =
    let v = g.P.Reads.view c.args.probe.now in
    let whole : length c.in-Some.others.now ≤ c.loop-i.i = omega arith in
    subst (λ (ns : List ℕ). AreDocuments (from_list {R = nat_cmp} ns)) (sym c.as_slice-3.ensures.value)
    (subst (λ (s : Numbers). AreDocuments s)
    (sym (last_word v c.args.field c.args.words.now c.in-Some.first.now c.in-Some.others.now c.loop-i.i c.as_slice-2.result.now c.in_ok-numbers.numbers.items c.in-Some.ensures.cases.0 whole (c.as_slice-2.ensures.value ∙ c.loop-i.invariant.0) c.in_ok-numbers.ensures))
    (found_documents (says_words c.args.field c.args.words.now) v c.requires))

pub returns-clause-found : goal.returns-clause-found
returns-clause-found g c =
    let v = g.P.Reads.view c.args.probe.now in
    let whole : length c.in-Some.others.now ≤ c.loop-i.i = omega arith in
    IfOk-weaker c.set_of.result _ _
    (λ s e. e ∙ ap from_list c.as_slice-3.ensures.value ∙ last_word v c.args.field c.args.words.now c.in-Some.first.now c.in-Some.others.now c.loop-i.i c.as_slice-2.result.now c.in_ok-numbers.numbers.items c.in-Some.ensures.cases.0 whole (c.as_slice-2.ensures.value ∙ c.loop-i.invariant.0) c.in_ok-numbers.ensures)
    c.set_of.ensures
