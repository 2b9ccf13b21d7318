-- What holds of the entries of a store, and of the weight that it remembers.
use Rattle.std.specs.Prelude.{◌≡◌, ℕ, ◌-◌, ◌^◌, ◌<◌, ◌≤◌, Bool, List, [], ◌∷◌, length, take, Option}
use Rattle.std.specs.Option.{ForSome}
use Rattle.std.specs.Map.{remove_entry}
use Rattle.lru.specs.LruCache.{LruCache}
use Rattle.cache_machine.specs.Laws.{weight_of}

-- There are at most so many entries as the cap says, and where there is a greatest weight, the
-- remembered one is theirs and not greater.
pub record IsBounded {K V : Type 0} (weight : V → ℕ) (greatest : Option ℕ) (total : ℕ)
    (c : LruCache K V) : Type 0 where
  pub some : 0 < c.cap
  pub small : c.cap < 2 ^ 32
  pub few : length c.entries ≤ c.cap
  pub weighed :
      ForSome greatest (λ most. (total ≡ weight_of weight c.entries) × (total ≤ most))

-- the first entry, and what a function makes of those behind it
abbrev pub first_with : {X : Type 0} → (List X → List X) → List X → List X
first_with f [] = []
first_with f (x ∷ xs) = x ∷ f xs

-- the pair, and the most recently used others that have room behind it
abbrev pub put_first_of : {K V : Type 0} → (K → K → Bool) → K → V → LruCache K V → List (K × V)
put_first_of eq k v c = (k, v) ∷ take (c.cap - 1) (remove_entry (eq k) c.entries)
