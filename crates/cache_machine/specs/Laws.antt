-- What holds of the machine, whatever the keys and values.
use Rattle.std.specs.Prelude.{◌≡◌, ℕ, ◌+◌, ◌<◌, ◌≤◌, Bool, true, false, List, [], ◌∷◌, length, take, slice_get, Option, Some, None, IfSome}
use Rattle.std.specs.List.{AllByRecursion, IsDistinct}
use Rattle.std.specs.Map.{keys_of, lookup}
use Rattle.cache_machine.specs.declared.look.Look.TheVariants.{Hit}
use Rattle.cache_machine.specs.Machine.{Kept, Cache, empty_cache, cut, is_light, stored, look_answer, after_look}
use Rattle.cache_machine.specs.Runs.{Call, Answer, look, IsRun}

-- what the entries weigh together
abbrev pub weight_of : {K V : Type 0} → (V → ℕ) → List (K × V) → ℕ
weight_of weight [] = 0
weight_of weight (e ∷ es) = weight e.1 + weight_of weight es

-- the keys that are pending, by the seats that own them
abbrev pub pending_keys : {K : Type 0} → List (Option K) → List K
pending_keys [] = []
pending_keys (None ∷ seats) = pending_keys seats
pending_keys (Some k ∷ seats) = k ∷ pending_keys seats

-- the bounds, that no two entries have one key, and that no two seats own one
pub record IsSound {K V : Type 0} (eq : K → K → Bool) (weight : V → ℕ)
    (c : Cache K V) : Type 0 where
  pub keys : IsDistinct eq (keys_of c.kept.entries)
  pub few : length c.kept.entries ≤ c.kept.size
  pub light : IfSome c.kept.greatest (λ most. weight_of weight c.kept.entries ≤ most)
  pub owners : IsDistinct eq (pending_keys c.pending)

-- Every state is sound that calls lead to from a cache that keeps nothing.
abbrev pub RunsAreSound : (K V : Type 0) → (K → K → Bool) → Type 0
RunsAreSound K V eq =
    (weight : V → ℕ) (size : ℕ) (greatest : Option ℕ) (seats : ℕ)
    (steps : List (Call K V × Answer K V)) (c : Cache K V)
    → IsRun eq weight steps (empty_cache size greatest seats) c → IsSound eq weight c

-- A key whose entry serves is answered Hit, whoever owns it, and the answer leaves the owners as they are.
abbrev pub HitsWhatServes : (K V : Type 0) → (K → K → Bool) → Type 0
HitsWhatServes K V eq =
    (serves : V → Bool) (k : K) (v : V) (seat : ℕ) (c : Cache K V)
    → lookup (eq k) c.kept.entries ≡ Some v → serves v ≡ true
    → (look_answer eq serves k c ≡ Hit v) × ((after_look eq serves k seat c).pending ≡ c.pending)

-- the call takes every value, where it looks up
abbrev pub TakesAll : {K V : Type 0} → Call K V → Type 0
TakesAll {K} {V} (look k serves seat) = (v : V) → serves v ≡ true
TakesAll call = Unit {0}

-- no pending key has an entry
abbrev pub NoneIsBoth : {K V : Type 0} → (K → K → Bool) → Cache K V → Type 0
NoneIsBoth eq c = AllByRecursion (λ k. lookup (eq k) c.kept.entries ≡ None) (pending_keys c.pending)

-- Where every value serves, no key is ever pending that has an entry.
abbrev pub PendingAreMissing : (K V : Type 0) → (K → K → Bool) → Type 0
PendingAreMissing K V eq =
    (weight : V → ℕ) (size : ℕ) (greatest : Option ℕ) (seats : ℕ)
    (steps : List (Call K V × Answer K V)) (c : Cache K V)
    → AllByRecursion (λ step. TakesAll step.0) steps
    → IsRun eq weight steps (empty_cache size greatest seats) c → NoneIsBoth eq c

-- the front has at most `size` entries, weighs at most the greatest weight, and no longer front does
pub record IsLongestFront {K V : Type 0} (weight : V → ℕ) (size : ℕ) (greatest : Option ℕ)
    (es kept : List (K × V)) : Type 0 where
  pub front : kept ≡ take (length kept) es
  pub few : length kept ≤ size
  pub light : IfSome greatest (λ most. weight_of weight kept ≤ most)
  pub longest :
      (n : ℕ) → n ≤ size → n ≤ length es
      → IfSome greatest (λ most. weight_of weight (take n es) ≤ most) → n ≤ length kept

-- What is kept is the longest front within both bounds.
abbrev pub KeepsLongestFront : (K V : Type 0) → Type 0
KeepsLongestFront K V =
    (weight : V → ℕ) (size : ℕ) (greatest : Option ℕ) (es : List (K × V))
    → IsLongestFront weight size greatest es (cut weight size greatest es)

-- A pair that is stored comes first, and one that is too heavy leaves all as it was.
abbrev pub StoresFirst : (K V : Type 0) → (K → K → Bool) → Type 0
StoresFirst K V eq =
    (weight : V → ℕ) (k : K) (v : V) (c : Kept K V) → 0 < c.size
    → (is_light weight c.greatest v ≡ true
    → slice_get (stored eq weight k v c).entries 0 ≡ Some (k, v))
    × (is_light weight c.greatest v ≡ false → stored eq weight k v c ≡ c)
