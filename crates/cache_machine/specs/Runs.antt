-- Calls as data: which answer and which next state each may have, and runs of them.
use Rattle.std.specs.Prelude.{◌≡◌, ℕ, Bool, List, [], ◌∷◌}
use Rattle.cache_machine.specs.declared.look.Look.{Look}
use Rattle.cache_machine.specs.declared.look.Look.TheVariants.{Hit, Join, Own}
use Rattle.cache_machine.specs.Machine.{Cache, look_answer, after_look, finished, released, recent_keys}

-- A call. A look-up names its key, the values that serve and its seat; a finish its seat, its value and whether that may be kept.
pub data Call (K V : Type 0) : Type 0 where
  look : K → (V → Bool) → ℕ → Call K V
  finish : ℕ → V → Bool → Call K V
  give_up : ℕ → Call K V
  recent : ℕ → Call K V

-- What a call may be answered. Memory may be wanting for the value of a hit, for what a finish stores and for the keys of recent.
pub data Answer (K V : Type 0) : Type 0 where
  looked : Look K V → Answer K V
  done : Answer K V
  keys : List K → Answer K V
  no_memory : Answer K V

-- a value was found
abbrev pub IsHit : {K V : Type 0} → Look K V → Type 0
IsHit (Hit v) = Unit {0}
IsHit (Join k owner) = ⊥
IsHit Own = ⊥

module _ {K V : Type 0} (eq : K → K → Bool) (weight : V → ℕ) where
  -- The call may be answered so and leave this state. Without memory a look-up that would hit leaves all as it was, and a finish stores nothing.
  abbrev pub Allows : Cache K V → Call K V → Answer K V → Cache K V → Type 0
  Allows c (look k serves seat) (looked a) next =
      (a ≡ look_answer eq serves k c) × (next ≡ after_look eq serves k seat c)
  Allows c (look k serves seat) no_memory next = IsHit (look_answer eq serves k c) × (next ≡ c)
  Allows c (finish seat v keep) done next = next ≡ finished eq weight seat v keep c
  Allows c (finish seat v keep) no_memory next = next ≡ released seat c
  Allows c (give_up seat) done next = next ≡ released seat c
  Allows c (recent n) (keys ks) next = (ks ≡ recent_keys n c.kept) × (next ≡ c)
  Allows c (recent n) no_memory next = next ≡ c
  Allows c call answer next = ⊥

  -- the calls with their answers lead from one state to the other
  abbrev pub IsRun : List (Call K V × Answer K V) → Cache K V → Cache K V → Type 0
  IsRun [] from to = to ≡ from
  IsRun (step ∷ steps) from to =
      (next : Cache K V) × Allows from step.0 step.1 next × IsRun steps next to
