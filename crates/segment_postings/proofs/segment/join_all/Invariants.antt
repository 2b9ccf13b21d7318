use Rattle.segment_postings.specs.Segments.{field_at}
use Rattle.segment_postings.specs.Renumbering.{IsJoined}
use Rattle.segment_postings.proofs.SegmentLaws.{FieldsUpTo}
use Rattle.segment_postings.proofs.segment.join_all.Given as goal

abbrev pub invariant-loop-field : goal.invariant-loop-field
invariant-loop-field l = FieldsUpTo (λ f os. IsJoined (field_at l.first f) l.first_moves (field_at l.second f) l.second_moves os) l.field l.fields.items
