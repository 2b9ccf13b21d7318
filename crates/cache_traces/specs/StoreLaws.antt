-- A store's calls as calls of the whole machine, by its one seat.
use Rattle.std.specs.Prelude.{◌≡◌, ℕ, true, false, List, [], ◌∷◌, ◌++◌, Option, None}
use Rattle.cache_machine.specs.declared.look.Look.TheVariants.{Hit, Own}
use Rattle.cache_machine.specs.Machine.{Kept, Cache, empty_cache}
use Rattle.cache_machine.specs.Runs.{Call, Answer, look, finish, give_up, looked, done, IsRun}
use Rattle.cache_traces.specs.declared.store_act.StoreAct.{StoreAct}
use Rattle.cache_traces.specs.declared.store_act.StoreAct.TheVariants.{Looked, Put}
use Rattle.cache_traces.specs.declared.store_act.StoreStep.{StoreStep}
use Rattle.cache_traces.specs.StoreTraces.{IsStoreTrace}
use Rattle.cache_traces.specs.Traces.{Rules, HasNumbers}

-- what is kept, in a cache of one seat that owns nothing
abbrev pub unowned : {V : Type 0} → Kept ℕ V → Cache ℕ V
unowned c = record { kept = c; pending = None ∷ [] }

module _ {V N : Type 0} (r : Rules ℕ V N) where
  -- A look that finds nothing owns the number and gives it up. A put owns the number, by a look that no value serves, and ends it.
  abbrev pub IsAskedBy : StoreAct N → List (Call ℕ V × Answer ℕ V) → Type 0
  IsAskedBy (Looked n true) ps = (v : V) × (ps ≡ (look n (r.serves 0) 0, looked (Hit v)) ∷ [])
  IsAskedBy (Looked n false) ps = ps ≡ (look n (r.serves 0) 0, looked Own) ∷ (give_up 0, done) ∷ []
  IsAskedBy (Put n numbers) ps =
      (v : V) × HasNumbers r v numbers
      × (ps ≡ (look n (λ _. false) 0, looked Own) ∷ (finish 0 v true, done) ∷ [])

  -- the calls of the machine, in their order
  abbrev pub AreAskedBy : List (StoreStep N) → List (Call ℕ V × Answer ℕ V) → Type 0
  AreAskedBy [] run = run ≡ []
  AreAskedBy (s ∷ ss) run =
      (ps more : List (Call ℕ V × Answer ℕ V)) × IsAskedBy s.act ps × AreAskedBy ss more × (run ≡ ps ++ more)

-- The calls of a store are a run of the machine with one seat, which owns nothing at the end.
abbrev pub StoresAreRuns : (V N : Type 0) → Type 0
StoresAreRuns V N =
    (r : Rules ℕ V N) (size : ℕ) (greatest : Option ℕ) (steps : List (StoreStep N)) (c : Kept ℕ V)
    → IsStoreTrace r size greatest steps c
    → (run : List (Call ℕ V × Answer ℕ V)) × AreAskedBy r steps run
    × IsRun r.eq r.weight run (empty_cache size greatest 1) (unowned c)
