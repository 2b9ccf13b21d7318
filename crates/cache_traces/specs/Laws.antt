-- What holds of each trace.
use Rattle.std.specs.Prelude.{◌≡◌, ℕ, ◌<◌, List, [], ◌∷◌, Option, if◌then◌else◌}
use Rattle.cache_machine.specs.declared.look.Look.{Look}
use Rattle.cache_machine.specs.Machine.{Cache, empty_cache, owned_by}
use Rattle.cache_machine.specs.Runs.{Call, Answer, look, finish, give_up, recent, looked as answered, done, keys, no_memory, IsRun}
use Rattle.cache_traces.specs.declared.act.Act.{Act}
use Rattle.cache_traces.specs.declared.act.Step.{Step}
use Rattle.cache_traces.specs.declared.act.Act.TheVariants.{Looked, Finished, GaveUp, Listed}
use Rattle.cache_traces.specs.Acts.{calls_of, owned_after}
use Rattle.cache_traces.specs.Traces.{Rules, HasNumbers, IsTrace, told}

-- The key that a seat owns is the one that its own calls leave it.
abbrev pub OwnersAreTold : (K V N : Type 0) → Type 0
OwnersAreTold K V N =
    (r : Rules K V N) (size : ℕ) (greatest : Option ℕ) (seats : ℕ) (steps : List (Step K N)) (c : Cache K V)
    → IsTrace r size greatest seats steps c
    → (seat : ℕ) → seat < seats → owned_by c seat ≡ owned_after (calls_of seat steps)

module _ {K V N : Type 0} (r : Rules K V N) where
  -- a call of the seat, and what the machine was asked and answered
  abbrev pub IsToldOf : ℕ → Act K N → Call K V × Answer K V → Type 0
  IsToldOf seat (Looked k need again t) p =
      (a : Look K V) × (p ≡ (look k (r.serves need) seat, answered a)) × (told a ≡ t)
  IsToldOf seat (Finished k n stored) p =
      (v : V) × HasNumbers r v n × (p ≡ (finish seat v (r.keeps n), if stored then done else no_memory))
  IsToldOf seat (GaveUp k) p = p ≡ (give_up seat, done)
  IsToldOf seat (Listed n ks) p = p ≡ (recent n, keys ks)

  -- one for each
  abbrev pub AreToldOf : List (Step K N) → List (Call K V × Answer K V) → Type 0
  AreToldOf [] [] = Unit {0}
  AreToldOf (s ∷ ss) (p ∷ ps) = IsToldOf s.seat s.act p × AreToldOf ss ps
  AreToldOf _ _ = ⊥

-- A trace is a run of the machine.
abbrev pub TracesAreRuns : (K V N : Type 0) → Type 0
TracesAreRuns K V N =
    (r : Rules K V N) (size : ℕ) (greatest : Option ℕ) (seats : ℕ) (steps : List (Step K N)) (c : Cache K V)
    → IsTrace r size greatest seats steps c
    → (run : List (Call K V × Answer K V)) × AreToldOf r steps run
    × IsRun r.eq r.weight run (empty_cache size greatest seats) c
