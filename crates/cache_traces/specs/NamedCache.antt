-- A cache over the numbers of keys, seen with the keys in their place.
use Rattle.std.specs.Prelude.{◌≡◌, ℕ, List, map, Option, Some, None, slice_get, option_map, option_and_then}
use Rattle.std.specs.List.{filter_map, AllByRecursion}
use Rattle.cache_machine.specs.Machine.{Kept, Cache}

module _ {K : Type 0} (keys : List K) where
  -- the number is that of a key
  abbrev pub IsIn : ℕ → Type 0
  IsIn n = (k : K) × (slice_get keys n ≡ Some k)

  -- a seat owns nothing, or a number that is a key's
  abbrev pub OwnsIn : Option ℕ → Type 0
  OwnsIn None = Unit {0}
  OwnsIn (Some n) = IsIn n

  -- the key that a seat owns
  abbrev pub named_owner : Option ℕ → Option K
  named_owner o = option_and_then (slice_get keys) o

  module _ {V : Type 0} where
    abbrev pub named_entry : ℕ × V → Option (K × V)
    named_entry e = option_map (λ k. (k, e.1)) (slice_get keys e.0)

    abbrev pub named_entries : List (ℕ × V) → List (K × V)
    named_entries es = filter_map named_entry es

    abbrev pub named_kept : Kept ℕ V → Kept K V
    named_kept c = record { size = c.size; greatest = c.greatest; entries = named_entries c.entries }

    abbrev pub named_cache : Cache ℕ V → Cache K V
    named_cache c = record { kept = named_kept c.kept; pending = map named_owner c.pending }

    -- each number is that of a key
    abbrev pub AllIn : List (ℕ × V) → Type 0
    AllIn es = AllByRecursion (λ e. IsIn e.0) es

    pub record AreIn (c : Cache ℕ V) : Type 0 where
      pub entries_in : AllIn c.kept.entries
      pub owned_in : AllByRecursion OwnsIn c.pending
