-- What is kept of the calls of a cache.
use Rattle.std.specs.Prelude.{ℕ, ◌==◌, List, [], ◌∷◌, Option, Some, None, if◌then◌else◌}
use Rattle.cache_traces.specs.declared.act.Act.{Act}
use Rattle.cache_traces.specs.declared.act.Act.TheVariants.{Looked, Finished, GaveUp, Listed}
use Rattle.cache_traces.specs.declared.act.Step.{Step}
use Rattle.cache_traces.specs.declared.told.Told.TheVariants.{Hit, Joined, Owned}

module _ {K N : Type 0} where
  -- the calls of one seat, in their order
  abbrev pub calls_of : ℕ → List (Step K N) → List (Act K N)
  calls_of n [] = []
  calls_of n (s ∷ ss) = if s.seat == n then s.act ∷ calls_of n ss else calls_of n ss

  -- the key that a seat owns after a call
  abbrev pub owned_then : Option K → Act K N → Option K
  owned_then o (Looked k need again Hit) = o
  owned_then o (Looked k need again (Joined owner)) = o
  owned_then o (Looked k need again Owned) = Some k
  owned_then o (Finished k n stored) = None
  owned_then o (GaveUp k) = None
  owned_then o (Listed n ks) = o

  -- the key that a seat owns after calls, where it owned one before or none
  abbrev pub owned_from : Option K → List (Act K N) → Option K
  owned_from o [] = o
  owned_from o (a ∷ more) = owned_from (owned_then o a) more

  -- the key that a seat owns after its calls, if any
  abbrev pub owned_after : List (Act K N) → Option K
  owned_after acts = owned_from None acts
