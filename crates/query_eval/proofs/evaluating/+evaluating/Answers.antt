use Rattle.std.proofs.Common.{not, ◌&&◌, map, ap, ◌∙◌}
use Rattle.std.specs.List.{list_any}
use Rattle.std.specs.FinSet.{difference}
use Rattle.std.proofs.lemmas.Result.{IfOk-weaker}
use Rattle.field_schema.specs.Values.{values_at}
use Rattle.query_tree.specs.Matches.{has_words, is_empty}
use Rattle.query_eval.specs.Found.{found, part}
use Rattle.doc_sets.specs.Sets.{Numbers}
use Rattle.query_eval.proofs.KindsOfQueries.{part_All, part_Words, part_Prefix, part_Range}
use Rattle.query_eval.proofs.Parts.{told_empty}
use Rattle.query_eval.proofs.Steps.{found_should, found_must}
use Rattle.query_eval.proofs.Verdicts.{found_all}
use Rattle.query_eval.proofs.evaluating.+evaluating.Goals.{nested-then-is_empty+in_ok-parts-in-Bool+in_ok-found-in-Bool, nested-else-is_empty+in_ok-all-in-Bool+in_ok-found-in-Bool-2}
use Rattle.query_eval.proofs.evaluating.+evaluating.Goals as goal

pub nested-returns-in-All-clause-found : goal.nested-returns-in-All-clause-found
nested-returns-in-All-clause-found g t c =
    let v = g.P.Reads.view c.args.probe.now in
    IfOk-weaker c.copy_of.result _ _ (λ s e. e ∙ c.live.ensures.numbers ∙ found_all v ∙ part_All v c.args.query.now c.in-All.is) c.copy_of.ensures

pub nested-returns-in-Words-clause-found : goal.nested-returns-in-Words-clause-found
nested-returns-in-Words-clause-found g t c =
    let v = g.P.Reads.view c.args.probe.now in
    IfOk-weaker c.phrase.result _ _
    (λ s e. e
    ∙ ap (λ ws. found (λ d. not (is_empty ws) && list_any (has_words ws) (values_at d.values c.in-Words.field)) v) c.get.ensures
    ∙ part_Words v c.args.query.now c.in-Words.field c.in-Words.words c.in-Words.is)
    c.phrase.ensures.found

pub nested-returns-in-Prefix-clause-found : goal.nested-returns-in-Prefix-clause-found
nested-returns-in-Prefix-clause-found g t c =
    let v = g.P.Reads.view c.args.probe.now in
    IfOk-weaker c.beginning.result _ _ (λ s e. e ∙ part_Prefix v c.args.query.now c.in-Prefix.field c.in-Prefix.text c.in-Prefix.is) c.beginning.ensures.found

pub nested-returns-in-Range-clause-found : goal.nested-returns-in-Range-clause-found
nested-returns-in-Range-clause-found g t c =
    let v = g.P.Reads.view c.args.probe.now in
    IfOk-weaker c.between-in-Range.result _ _ (λ s e. e ∙ part_Range v c.args.query.now c.in-Range.field c.in-Range.low c.in-Range.high c.in-Range.is) c.between-in-Range.ensures.found

pub nested-returns-in_ok-gone-in-Bool-clause-found : goal.nested-returns-in_ok-gone-in-Bool-clause-found
nested-returns-in_ok-gone-in-Bool-clause-found g t c =
    let v = g.P.Reads.view c.args.probe.now in
    let gone = c.in_ok-gone-in-Bool.gone in
    elim c.if-is_empty.branch [
      | nested-then-is_empty+in_ok-parts-in-Bool+in_ok-found-in-Bool w ↦
          IfOk-weaker c.without.result _ _
          (λ s e. found_should v c.args.query.now c.in-Bool.must c.in-Bool.should c.in-Bool.not c.in-Bool.is c.requires
          (told_empty _ _ _ _ c.as_slice.ensures c.is_empty.ensures w.if-is_empty.true)
          w.in_ok-parts-in-Bool.field-0.items c.in_ok-parts-in-Bool-2.field-0.items w.in_ok-found-in-Bool.found gone s
          (w.in_ok-parts-in-Bool.ensures.found ∙ ap (map (λ r. part r v)) w.as_slice-then-is_empty.ensures)
          w.in_ok-found-in-Bool.ensures
          (c.in_ok-parts-in-Bool-2.ensures.found
          ∙ (λ i. map (λ r. part r ((ap g.P.Reads.view w.probe-is ∙ w.parts.ensures.kept.view) i)) (c.as_slice-in-Bool.ensures i)))
          c.in_ok-gone-in-Bool.ensures
          (e ∙ ap (λ (x : Numbers). difference x gone) w.found-is))
          c.without.ensures
      | nested-else-is_empty+in_ok-all-in-Bool+in_ok-found-in-Bool-2 w ↦
          IfOk-weaker c.without.result _ _
          (λ s e. found_must v c.args.query.now c.in-Bool.must c.in-Bool.should c.in-Bool.not c.in-Bool.is c.requires
          (told_empty _ _ _ _ c.as_slice.ensures c.is_empty.ensures w.if-is_empty.false)
          w.as_slice-else-is_empty-2.result.now c.in_ok-parts-in-Bool-2.field-0.items w.in_ok-found-in-Bool-2.found gone s
          (w.as_slice-else-is_empty-2.ensures.value ∙ w.in_ok-all-in-Bool.ensures.found ∙ ap (map (λ r. part r v)) w.as_slice-else-is_empty.ensures)
          w.in_ok-found-in-Bool-2.ensures
          (c.in_ok-parts-in-Bool-2.ensures.found
          ∙ (λ i. map (λ r. part r ((ap g.P.Reads.view w.probe-is ∙ w.parts-else-is_empty.ensures.kept.view) i)) (c.as_slice-in-Bool.ensures i)))
          c.in_ok-gone-in-Bool.ensures
          (e ∙ ap (λ (x : Numbers). difference x gone) w.found-is))
          c.without.ensures
    ]
