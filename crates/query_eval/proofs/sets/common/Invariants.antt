use Rattle.std.proofs.Common.{◌≡◌, ℕ, ◌&&◌, take}
use Rattle.std.specs.List.{list_all}
use Rattle.std.specs.FinSet.{contains}
use Rattle.query_eval.proofs.sets.common.Given as goal

-- the members of the smallest set that the sets so far have
abbrev pub invariant-loop-one : goal.invariant-loop-one
invariant-loop-one l = (n : ℕ) → contains l.found n ≡ (contains l.initial.found n && list_all (λ t. contains t n) (take l.one-index l.sets))
