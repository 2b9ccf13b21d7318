use Rattle.std.proofs.Common.{◌+◌, ◌++◌, length}
use Rattle.segment_postings.specs.Segments.{with_key}
use Rattle.segment_postings.specs.Renumbering.{moved}
use Rattle.segment_postings.proofs.TermWalks.{Walk}
use Rattle.segment_postings.proofs.laid.Laid.joined.Given as goal

abbrev pub invariant-keys : goal.invariant-keys
invariant-keys l =
    Walk l.first_places l.first_moves l.second_places l.second_moves
    (λ k. moved l.first_moves (with_key k l.first) ++ moved l.second_moves (with_key k l.second))
    l.terms.items l.places.items l.left l.right

abbrev pub decreases-keys : goal.decreases-keys
decreases-keys l = length l.left + length l.right
