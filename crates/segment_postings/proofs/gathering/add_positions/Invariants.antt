use Rattle.std.proofs.Common.{◌≡◌, ◌++◌, take}
use Rattle.segment_postings.specs.Positions.{positions_at}
use Rattle.segment_postings.proofs.gathering.add_positions.Given as goal

abbrev pub invariant-loop-place : goal.invariant-loop-place
invariant-loop-place l = l.found.items ≡ l.initial.found.items ++ positions_at l.live l.base (take l.place-index l.places)
