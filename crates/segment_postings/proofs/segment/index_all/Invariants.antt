use Rattle.std.proofs.Common.{map}
use Rattle.std.specs.Arc.{arc_value}
use Rattle.segment_postings.specs.Segments.{IsIndex}
use Rattle.segment_postings.proofs.SegmentLaws.{FieldsUpTo}
use Rattle.segment_postings.proofs.segment.index_all.Given as goal

abbrev pub invariant-loop-field : goal.invariant-loop-field
invariant-loop-field l = FieldsUpTo (IsIndex (map arc_value l.docs)) l.field l.fields.items
