use Rattle.std.proofs.Common.{map, take}
use Rattle.std.specs.Arc.{arc_value}
use Rattle.segment_postings.proofs.PositionsGathered.{PartPositions}
use Rattle.segment_postings.proofs.view.View.add_positions.Given as goal

abbrev pub invariant-loop-part : goal.invariant-loop-part
invariant-loop-part l = PartPositions l.live l.field l.key l.initial.found.items (map arc_value (take l.part-index l.parts)) l.base l.found.items
