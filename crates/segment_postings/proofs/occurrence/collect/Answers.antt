use Rattle.std.proofs.Common.{[], ◌++◌, ◌<◌, length, ap, ◌∙◌, arith}
use Rattle.std.specs.List.{enumerate_from, flat_map}
use Rattle.std.specs.Arc.{arc_value}
use Rattle.field_schema.specs.Values.{values_at}
use Rattle.segment_postings.specs.Segments.{of_value, of_doc}
use Rattle.segment_postings.proofs.Occurrences.{mapped_more, appended}
use Rattle.segment_postings.proofs.occurrence.collect.Goals as goal

pub loop-number-preserved : goal.loop-number-preserved
loop-number-preserved c =
    let within : c.loop-number.number < length c.args.docs.now = omega arith in
    appended _ _ [] _ _ _
    (c.in_ok-add_values.ensures
    ∙ ap (λ vs. c.loop-number.found.items ++ flat_map (of_value c.loop-number.number) (enumerate_from 0 vs)) (c.values.ensures ∙ ap (λ d. values_at d.values c.args.field) c.deref.ensures))
    c.loop-number.invariant
    (mapped_more (of_doc c.args.field) arc_value c.args.docs.now c.loop-number.number c.index-docs-number.result within c.index-docs-number.is)
