use Rattle.std.proofs.Common.{◌≡◌, ℕ, length}
use Rattle.std.specs.List.{list_any}
use Rattle.std.specs.FinSet.{contains}
use Rattle.query_eval.proofs.sets.united.Given as goal

-- the sets so far wait in their order
abbrev pub invariant-loop-one : goal.invariant-loop-one
invariant-loop-one l =
    (l.left.items ≡ l.yielded) ×
    (goal.iterator-loop-one).can_next l.one-iterator ×
    (goal.iterator-loop-one).is_finite l.one-iterator

-- the sets that wait have the members that all had
abbrev pub invariant-joining : goal.invariant-joining
invariant-joining l = (n : ℕ) → list_any (λ t. contains t n) l.left.items ≡ list_any (λ t. contains t n) l.fn.sets.items

abbrev pub decreases-joining : goal.decreases-joining
decreases-joining l = length l.left.items
