use Rattle.std.proofs.Common.{◌≡◌, take}
use Rattle.segment_postings.specs.Groups.{gathered}
use Rattle.segment_postings.proofs.gathering.gather.Given as goal

abbrev pub invariant-loop-place : goal.invariant-loop-place
invariant-loop-place l = l.found.items ≡ gathered l.live l.base l.told l.initial.found.items (take l.place-index l.places)
