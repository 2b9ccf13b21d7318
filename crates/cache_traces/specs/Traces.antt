-- Which calls may follow each other: a trace is a run of the machine from the cache that keeps nothing.
use Rattle.std.specs.Prelude.{◌≡◌, ℕ, ◌<◌, Bool, List, [], ◌∷◌, ◌++◌, length, Option, Some, None, if◌then◌else◌}
use Rattle.cache_machine.specs.declared.look.Look.{Look}
use Rattle.cache_machine.specs.declared.look.Look.TheVariants as look
use Rattle.cache_machine.specs.Machine.{Cache, empty_cache, owned_by, look_answer, after_look, finished as after_finish, released, recent_keys}
use Rattle.cache_traces.specs.declared.told.Told.{Told}
use Rattle.cache_traces.specs.declared.told.Told.TheVariants.{Hit, Joined, Owned}
use Rattle.cache_traces.specs.declared.act.Act.{Act}
use Rattle.cache_traces.specs.declared.act.Step.{Step}
use Rattle.cache_traces.specs.declared.act.Act.TheVariants.{Looked, Finished, GaveUp, Listed}

-- what is answered, without the value
abbrev pub told : {K V : Type 0} → Look K V → Told
told (look.Hit v) = Hit
told (look.Join k owner) = Joined owner
told look.Own = Owned

-- How a cache knows its keys and values: what a value weighs, whether it serves a need, its numbers where at most so many may be Listed,
-- and whether a value of these numbers may be kept.
pub record Rules (K V N : Type 0) : Type 0 where
  pub eq : K → K → Bool
  pub weight : V → ℕ
  pub serves : ℕ → V → Bool
  pub numbers : ℕ → V → N
  pub keeps : N → Bool

abbrev pub rules : {K V N : Type 0} → (K → K → Bool) → (V → ℕ) → (ℕ → V → Bool) → (ℕ → V → N) → (N → Bool) → Rules K V N
rules eq weight serves numbers keeps = record { eq = eq; weight = weight; serves = serves; numbers = numbers; keeps = keeps }

module _ {K V N : Type 0} (r : Rules K V N) where
  -- the value has these numbers
  abbrev pub HasNumbers : V → N → Type 0
  HasNumbers v n = (most : ℕ) × (n ≡ r.numbers most v)

  -- after the end of a key, where there was memory to store the value or not
  abbrev pub after_end : ℕ → V → N → Bool → Cache K V → Cache K V
  after_end seat v n stored c =
      if stored then after_finish r.eq r.weight seat v (r.keeps n) c else released seat c

  -- The seat may be answered so in this state, and that state is next. Who looks up owns nothing, and only who owns a key ends it.
  abbrev pub Follows : ℕ → Cache K V → Act K N → Cache K V → Type 0
  Follows seat c (Looked k need again a) next =
      (owned_by c seat ≡ None) × (a ≡ told (look_answer r.eq (r.serves need) k c))
      × (next ≡ after_look r.eq (r.serves need) k seat c)
  Follows seat c (Finished k n stored) next =
      (owned_by c seat ≡ Some k)
      × ((v : V) × HasNumbers v n × (next ≡ after_end seat v n stored c))
  Follows seat c (GaveUp k) next = (owned_by c seat ≡ Some k) × (next ≡ released seat c)
  Follows seat c (Listed n ks) next = (ks ≡ recent_keys n c.kept) × (next ≡ c)

  -- the calls lead from the first state to the last
  pub data LeadsTo (first : Cache K V) : List (Step K N) → Cache K V → Type 0 where
    begun : LeadsTo first [] first
    gone_on : (steps : List (Step K N)) (c next : Cache K V) (s : Step K N)
        → LeadsTo first steps c → s.seat < length c.pending → Follows s.seat c s.act next
        → LeadsTo first (steps ++ s ∷ []) next

  -- a trace of a cache of this size for so many seats, and the state that it ends in
  abbrev pub IsTrace : ℕ → Option ℕ → ℕ → List (Step K N) → Cache K V → Type 0
  IsTrace size greatest seats steps c = LeadsTo (empty_cache size greatest seats) steps c
