-- What contracts see of a store with its calls.
use Rattle.std.specs.Prelude.{ℕ, List, [], ◌∷◌, ◌++◌}
use Rattle.cache_machine.specs.Machine.{Kept}
use Rattle.cache_traces.specs.declared.store_act.StoreAct.{StoreAct}
use Rattle.cache_traces.specs.declared.store_act.StoreStep.{StoreStep}
use Rattle.cache_traces.specs.StoreTraces.{IsStoreTrace}
use Rattle.cache_traces.specs.Traces.{Rules}

-- what is kept, and the calls that led to it
pub record TracedKept (V N : Type 0) : Type 0 where
  pub kept : Kept ℕ V
  pub steps : List (StoreStep N)

abbrev pub traced_kept : {V N : Type 0} → Kept ℕ V → List (StoreStep N) → TracedKept V N
traced_kept c steps = record { kept = c; steps = steps }

-- the calls lead from nothing kept to this
abbrev pub IsTracedStore : {V N : Type 0} → Rules ℕ V N → TracedKept V N → Type 0
IsTracedStore r t = IsStoreTrace r t.kept.size t.kept.greatest t.steps t.kept

-- one more call
abbrev pub one_more : {N : Type 0} → List (StoreStep N) → ℕ → StoreAct N → List (StoreStep N)
one_more steps seat act = steps ++ record { seat = seat; act = act } ∷ []
