use Rattle.std.proofs.Common.{◌≡◌, length, map, take}
use Rattle.std.specs.Arc.{arc_value}
use Rattle.segment_postings.specs.Views.{all_docs}
use Rattle.segment_postings.proofs.view.count.Given as goal

abbrev pub invariant-loop-part : goal.invariant-loop-part
invariant-loop-part l = l.total ≡ length (all_docs (map arc_value (take l.part-index l.parts)))
