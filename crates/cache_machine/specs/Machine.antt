-- A cache of bounded size whose callers share the keys that they compute: its state, and what each call does to it. Keys are told apart by
-- a test `eq`, and a value has a weight.
use Rattle.std.specs.Prelude.{ℕ, ◌-◌, Bool, true, false, List, [], ◌∷◌, take, nat_le, replicate, slice_get, slice_set, Option, Some, None, if◌then◌else◌}
use Rattle.std.specs.List.{position_from}
use Rattle.std.specs.Option.{option_map_or, option_and_then}
use Rattle.std.specs.Map.{keys_of, lookup, lookup_entry, remove_entry}
use Rattle.std.specs.Coded.{Coded, code_by, coded×, coded_list, coded_option, coded_ℕ}
use Rattle.std.specs.Prelude.{refl}
use Rattle.cache_machine.specs.declared.look.Look.{Look}
use Rattle.cache_machine.specs.declared.look.Look.TheVariants.{Hit, Join, Own}

-- ---- the state

-- the entries, the most recently used first: at most `size` of them, which weigh at most `greatest` together where that is there
pub record Kept (K V : Type 0) : Type 0 where
  pub size : ℕ
  pub greatest : Option ℕ
  pub entries : List (K × V)

-- the entries, and by seat the key that its caller is computing, if any: that key is pending, and the seat owns it
pub record Cache (K V : Type 0) : Type 0 where
  pub kept : Kept K V
  pub pending : List (Option K)

-- no bound on the weight forbids the value
abbrev pub is_light : {V : Type 0} → (V → ℕ) → Option ℕ → V → Bool
is_light weight greatest v = option_map_or (λ most. nat_le (weight v) most) greatest true

-- the first seat that owns the key
abbrev pub owner_of : {K : Type 0} → (K → K → Bool) → K → List (Option K) → Option ℕ
owner_of eq k pending = position_from (λ o. option_map_or (eq k) o false) 0 pending

module _ {K V : Type 0} where
  -- nothing is kept
  abbrev pub nothing_kept : ℕ → Option ℕ → Kept K V
  nothing_kept size greatest = record { size = size; greatest = greatest; entries = [] }

  -- nothing is kept, and nobody owns a key
  abbrev pub empty_cache : ℕ → Option ℕ → ℕ → Cache K V
  empty_cache size greatest seats = record {
    kept = nothing_kept size greatest;
    pending = replicate seats None;
  }

  -- with other entries
  abbrev pub with_entries : Kept K V → List (K × V) → Kept K V
  with_entries c es = record c { entries = es }

  -- the key that the seat owns
  abbrev pub owned_by : Cache K V → ℕ → Option K
  owned_by c seat = option_and_then (λ o. o) (slice_get c.pending seat)

  -- ---- what is kept

  module _ (weight : V → ℕ) where
    -- the longest front of the entries that weighs at most `most`
    abbrev pub light_front : ℕ → List (K × V) → List (K × V)
    light_front most [] = []
    light_front most (e ∷ es) =
        if nat_le (weight e.1) most then e ∷ light_front (most - weight e.1) es else []

    -- the longest front of at most `size` entries that weighs at most the greatest weight, where there is one
    abbrev pub cut : ℕ → Option ℕ → List (K × V) → List (K × V)
    cut size greatest es =
        option_map_or (λ most. light_front most (take size es)) greatest (take size es)

  -- what is answered, by the value that serves, if any, and by the owner of the key, if any
  abbrev pub answer_by : K → Option V → Option ℕ → Look K V
  answer_by k (Some v) owner = Hit v
  answer_by k None (Some owner) = Join k owner
  answer_by k None None = Own

  module _ (eq : K → K → Bool) where
    -- the entry with the key, if any, stands first
    abbrev pub brought_first : K → List (K × V) → List (K × V)
    brought_first k es = option_map_or (λ e. e ∷ remove_entry (eq k) es) (lookup_entry (eq k) es) es

    -- the value of the key, where it serves
    abbrev pub served : (V → Bool) → K → List (K × V) → Option V
    served serves k es = option_and_then (λ v. if serves v then Some v else None) (lookup (eq k) es)

    -- The pair stands first, in place of one with its key, and the least recently used go where there are too many or they are too
    -- heavy. A value heavier than the greatest weight is not stored, and drops nothing.
    abbrev pub stored : (V → ℕ) → K → V → Kept K V → Kept K V
    stored weight k v c =
        if is_light weight c.greatest v
        then with_entries c (cut weight c.size c.greatest ((k, v) ∷ remove_entry (eq k) c.entries))
        else c

    -- ---- the calls

    -- A look-up is answered Hit where an entry has the key and serves, else Join where the key is pending, else Own.
    abbrev pub look_answer : (V → Bool) → K → Cache K V → Look K V
    look_answer serves k c = answer_by k (served serves k c.kept.entries) (owner_of eq k c.pending)

    abbrev pub after_answer : K → ℕ → Cache K V → Look K V → Cache K V
    after_answer k seat c (Hit v) = record c {
      kept = with_entries c.kept (brought_first k c.kept.entries);
    }
    after_answer k seat c (Join j owner) = c
    after_answer k seat c Own = record c { pending = slice_set c.pending seat (Some k) }

    -- After Hit the entry comes first, after Join nothing changed, and after Own the seat owns the key.
    abbrev pub after_look : (V → Bool) → K → ℕ → Cache K V → Cache K V
    after_look serves k seat c = after_answer k seat c (look_answer serves k c)

  -- the seat owns nothing any more
  abbrev pub released : ℕ → Cache K V → Cache K V
  released seat c = record c { pending = slice_set c.pending seat None }

  -- The seat gives the value of its key: the key is no longer pending, and the pair is stored where it may be kept.
  abbrev pub finished : (K → K → Bool) → (V → ℕ) → ℕ → V → Bool → Cache K V → Cache K V
  finished eq weight seat v keep c =
      let after = released seat c in
      option_map_or
      (λ k. if keep then record after { kept = stored eq weight k v c.kept } else after)
      (owned_by c seat) after

  -- the most recently used keys, at most n
  abbrev pub recent_keys : ℕ → Kept K V → List K
  recent_keys n c = take n (keys_of c.entries)

  -- ---- codes, by which proofs tell states apart

  abbrev pub kept_code : Coded K → Coded V → Coded (Kept K V)
  kept_code k v =
      code_by (ℕ × (Option ℕ × List (K × V)))
      (coded× coded_ℕ (coded× (coded_option coded_ℕ) (coded_list (coded× k v))))
      (λ c. (c.size, (c.greatest, c.entries)))
      (λ p. record { size = p.0; greatest = p.1.0; entries = p.1.1 }) (λ _. refl)

  abbrev pub cache_code : Coded K → Coded V → Coded (Cache K V)
  cache_code k v =
      code_by (Kept K V × List (Option K)) (coded× (kept_code k v) (coded_list (coded_option k)))
      (λ c. (c.kept, c.pending)) (λ p. record { kept = p.0; pending = p.1 }) (λ _. refl)
