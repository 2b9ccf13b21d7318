-- Which calls of a store may follow each other: looks bring first what they find, and puts are stored.
use Rattle.std.specs.Prelude.{◌≡◌, ℕ, Bool, List, [], ◌∷◌, ◌++◌, ◌==◌, is_some, Option, if◌then◌else◌}
use Rattle.cache_machine.specs.Machine.{Kept, nothing_kept, with_entries, brought_first, served, stored}
use Rattle.cache_traces.specs.declared.store_act.StoreAct.{StoreAct}
use Rattle.cache_traces.specs.declared.store_act.StoreAct.TheVariants.{Looked, Put}
use Rattle.cache_traces.specs.declared.store_act.StoreStep.{StoreStep}
use Rattle.cache_traces.specs.Traces.{Rules, HasNumbers}

-- the calls of one seat, in their order
abbrev pub store_calls_of : {N : Type 0} → ℕ → List (StoreStep N) → List (StoreAct N)
store_calls_of n [] = []
store_calls_of n (s ∷ ss) = if s.seat == n then s.act ∷ store_calls_of n ss else store_calls_of n ss

-- what is kept after a look: the entry that was found comes first
abbrev pub after_found : {V : Type 0} → (ℕ → ℕ → Bool) → ℕ → Bool → Kept ℕ V → Kept ℕ V
after_found eq n hit c = if hit then with_entries c (brought_first eq n c.entries) else c

module _ {V N : Type 0} (r : Rules ℕ V N) where
  -- the value of the number, where it serves whoever needs nothing more
  abbrev pub found : ℕ → Kept ℕ V → Option V
  found n c = served r.eq (r.serves 0) n c.entries

  -- The call may be made of what is kept, and that is kept next.
  abbrev pub StoreFollows : Kept ℕ V → StoreAct N → Kept ℕ V → Type 0
  StoreFollows c (Looked n hit) next = (hit ≡ is_some (found n c)) × (next ≡ after_found r.eq n hit c)
  StoreFollows c (Put n numbers) next = (v : V) × HasNumbers r v numbers × (next ≡ stored r.eq r.weight n v c)

  -- the calls lead from what is kept at first to what is kept at last
  pub data StoreLeadsTo (first : Kept ℕ V) : List (StoreStep N) → Kept ℕ V → Type 0 where
    store_begun : StoreLeadsTo first [] first
    store_gone_on : (steps : List (StoreStep N)) (c next : Kept ℕ V) (s : StoreStep N)
        → StoreLeadsTo first steps c → StoreFollows c s.act next
        → StoreLeadsTo first (steps ++ s ∷ []) next

  -- a trace of a store of this size, and what it keeps at last
  abbrev pub IsStoreTrace : ℕ → Option ℕ → List (StoreStep N) → Kept ℕ V → Type 0
  IsStoreTrace size greatest steps c = StoreLeadsTo (nothing_kept size greatest) steps c
