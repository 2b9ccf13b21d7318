use Rattle.std.proofs.Common.{map, take}
use Rattle.std.specs.Arc.{arc_value}
use Rattle.segment_postings.specs.Spans.{takes}
use Rattle.segment_postings.proofs.SpanNumbers.{PartSets}
use Rattle.segment_postings.proofs.view.View.numbers_within.Given as goal

abbrev pub invariant-loop-part : goal.invariant-loop-part
invariant-loop-part l = PartSets l.field (takes l.span) (map arc_value (take l.part-index l.parts)) l.base l.found
