use Rattle.std.proofs.Common.{map, subst}
use Rattle.std.specs.Arc.{arc_value}
use Rattle.segment_postings.specs.Segments.{AreIndexes}
use Rattle.segment_postings.proofs.SegmentLaws.{part_lawful}
use Rattle.segment_postings.proofs.segment.Segment.new.Goals as goal

pub returns-clause-lawful : goal.returns-clause-lawful
returns-clause-lawful c =
    let fs = c.in_ok-fields.fields.items in
    part_lawful (map arc_value c.args.docs.items) fs (subst (λ ds. AreIndexes (map arc_value ds) fs) c.as_slice.ensures.value c.in_ok-fields.ensures)

pub invariant_of-result : goal.invariant_of-result
invariant_of-result c =
    let fs = c.in_ok-fields.fields.items in
    (c.requires, subst (λ ds. AreIndexes (map arc_value ds) fs) c.as_slice.ensures.value c.in_ok-fields.ensures)
