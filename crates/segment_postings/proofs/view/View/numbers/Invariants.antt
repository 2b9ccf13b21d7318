use Rattle.std.proofs.Common.{map, take}
use Rattle.std.specs.Arc.{arc_value}
use Rattle.field_schema.specs.Keys.{key_eq}
use Rattle.segment_postings.proofs.SpanNumbers.{PartSets}
use Rattle.segment_postings.proofs.view.View.numbers.Given as goal

abbrev pub invariant-loop-part : goal.invariant-loop-part
invariant-loop-part l = PartSets l.field (key_eq l.key) (map arc_value (take l.part-index l.parts)) l.base l.found
