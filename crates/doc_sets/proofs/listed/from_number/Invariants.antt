use Rattle.std.proofs.Common.{◌≡◌, ℕ, ◌≤◌, length}
use Rattle.doc_sets.specs.Sets.{is_in, IsAscending}
use Rattle.doc_sets.proofs.listed.from_number.Given as goal

abbrev pub invariant-loop-first : goal.invariant-loop-first
invariant-loop-first l = IsAscending l.rest × ((n : ℕ) → l.least ≤ n → is_in l.rest n ≡ is_in l.fn.numbers n)

abbrev pub decreases-loop-first : goal.decreases-loop-first
decreases-loop-first l = length l.rest
