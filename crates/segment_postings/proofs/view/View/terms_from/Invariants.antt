use Rattle.std.proofs.Common.{map, take}
use Rattle.std.specs.Arc.{arc_value}
use Rattle.segment_postings.proofs.ViewLoops.{TermsSoFar}
use Rattle.segment_postings.proofs.view.View.terms_from.Given as goal

abbrev pub invariant-loop-part : goal.invariant-loop-part
invariant-loop-part l = TermsSoFar l.field l.from l.most (map arc_value (take l.part-index l.parts)) l.found.items
