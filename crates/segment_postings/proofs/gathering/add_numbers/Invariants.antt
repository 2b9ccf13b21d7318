use Rattle.std.proofs.Common.{◌≡◌, take}
use Rattle.std.specs.FinSet.{union, from_list}
use Rattle.segment_postings.proofs.SpanNumbers.{numbers_of_places}
use Rattle.segment_postings.proofs.gathering.add_numbers.Given as goal

abbrev pub invariant-loop-place : goal.invariant-loop-place
invariant-loop-place l = l.found ≡ union l.initial.found (from_list (numbers_of_places l.base (take l.place-index l.places)))
