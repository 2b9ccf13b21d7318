-- What contracts see of a cache with its trace.
use Rattle.std.specs.Prelude.{◌≡◌, ℕ, ◌+◌, ◌≤◌, List, [], ◌∷◌, length, Option, Some, None, slice_get}
use Rattle.std.specs.List.{IsDistinct}
use Rattle.cache_machine.specs.Machine.{Cache}
use Rattle.cache_traces.specs.NamedCache.{AreIn, named_cache}
use Rattle.cache_traces.specs.declared.act.Step.{Step}
use Rattle.cache_traces.specs.Traces.{Rules, IsTrace}

-- the keys by number, the machine's state, and the calls that led to it
pub record TracedCache (K V N : Type 0) : Type 0 where
  pub keys : List K
  pub cache : Cache K V
  pub steps : List (Step K N)

-- the calls lead from the cache that keeps nothing to this state
abbrev pub IsTraced : {K V N : Type 0} → Rules K V N → TracedCache K V N → Type 0
IsTraced r t = IsTrace r t.cache.kept.size t.cache.kept.greatest (length t.cache.pending) t.steps t.cache

-- what is said of the key of a number
abbrev pub OfKey : {K : Type 0} → List K → ℕ → (K → Type 0) → Type 0
OfKey {K} keys n P = (k : K) → slice_get keys n ≡ Some k → P k

-- how many seats own a key
abbrev pub owner_count : {K : Type 0} → List (Option K) → ℕ
owner_count [] = 0
owner_count (None ∷ os) = owner_count os
owner_count (Some k ∷ os) = 1 + owner_count os

-- For private clauses: the keys are distinct, all numbers are theirs, there is room for the end of each key that is owned, and the calls are a trace.
pub record Holds {K V N : Type 0} (r : Rules K V N) (keys : List K) (steps : List (Step K N)) (room : ℕ) (c : Cache ℕ V) : Type 0 where
  pub distinct : IsDistinct r.eq keys
  pub in_keys : AreIn keys c
  pub ends : owner_count c.pending ≤ room
  pub traced : IsTraced r (record { keys = keys; cache = named_cache keys c; steps = steps })
