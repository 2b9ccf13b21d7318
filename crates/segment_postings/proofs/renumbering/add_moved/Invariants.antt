use Rattle.std.proofs.Common.{◌≡◌, ◌++◌, take}
use Rattle.segment_postings.specs.Renumbering.{moved_places}
use Rattle.segment_postings.proofs.renumbering.add_moved.Given as goal

abbrev pub invariant-loop-place : goal.invariant-loop-place
invariant-loop-place l = l.all.items ≡ l.initial.all.items ++ moved_places l.moves (take l.place-index l.places)
