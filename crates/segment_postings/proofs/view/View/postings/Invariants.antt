use Rattle.std.proofs.Common.{map, take}
use Rattle.std.specs.Arc.{arc_value}
use Rattle.segment_postings.proofs.ViewLoops.{Gathered}
use Rattle.segment_postings.proofs.view.View.postings.Given as goal

abbrev pub invariant-loop-part : goal.invariant-loop-part
invariant-loop-part l = Gathered l.live l.field l.key (map arc_value (take l.part-index l.parts)) l.base l.found.items
