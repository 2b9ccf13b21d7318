use Rattle.std.proofs.Common.{◌≡◌, ◌++◌, ◌<◌, length, ap, ◌∙◌, rules, arith}
use Rattle.segment_postings.specs.Segments.{of_value}
use Rattle.segment_postings.proofs.Occurrences.{numbered_more, appended}
use Rattle.segment_postings.proofs.occurrence.add_values.Goals as goal

pub loop-i-preserved : goal.loop-i-preserved
loop-i-preserved c =
    let same : c.in-Ok.number ≡ c.loop-i.i = search rules in
    let within : c.loop-i.i < length c.args.values.now = omega arith in
    appended _ _ _ _ _ _
    (c.in_ok-add_value.ensures ∙ ap (λ n. c.loop-i.found.items ++ of_value c.args.doc (n, c.index-values-i.result)) same)
    c.loop-i.invariant
    (numbered_more (of_value c.args.doc) c.args.values.now c.loop-i.i c.index-values-i.result within c.index-values-i.is)
