-- Which histories the registry can have.
use Rattle.std.specs.Prelude.{◌≡◌, ◌≢◌, ℕ, ◌+◌, ◌<◌, ◌≤◌, List, [], ◌∷◌, length, fold, true, false, Some, None, IfSome}
use Rattle.registry_machine.specs.declared.entry.Entry.{Entry}
use Rattle.registry_machine.specs.declared.entry.Entry.TheVariants.{Open, TooMany, GenerationsSpent, Update, Finish, Superseded, Acquire, NotYet, Release, Free}
use Rattle.registry_machine.specs.Machine.{Limits, State, start, is_in, after}

-- there is room for one more warming generation, it is the next one, and its slot is open for none
pub record CanOpen (l : Limits) (s : State) (generation place : ℕ) : Type 0 where
  pub room : length s.warming < l.max_warming
  pub next : generation ≡ s.last_opened + 1
  pub within : generation ≤ l.last_generation
  pub slot : place < l.slots
  pub free : s.slots place ≡ None

-- as many generations are warming as may be, and these are told
pub record AreTooMany (l : Limits) (s : State) (list : List ℕ) : Type 0 where
  pub full : length s.warming ≡ l.max_warming
  pub told : list ≡ s.warming

-- there is room, and no generation is left
pub record AreSpent (l : Limits) (s : State) : Type 0 where
  pub room : length s.warming < l.max_warming
  pub last : s.last_opened ≡ l.last_generation

-- the generation is warming, and none greater is current
pub record CanFinish (s : State) (generation : ℕ) : Type 0 where
  pub warming : is_in generation s.warming ≡ true
  pub greatest : IfSome s.current (λ g. g ≤ generation)

-- the generation is warming, and a greater one is current
pub record IsSuperseded (s : State) (generation by : ℕ) : Type 0 where
  pub warming : is_in generation s.warming ≡ true
  pub current : s.current ≡ Some by
  pub greater : generation < by

-- the caller pins nothing, the generation is current, and its acquires are counted from 0
pub record CanAcquire (s : State) (caller generation ticket : ℕ) : Type 0 where
  pub free : s.pins caller ≡ None
  pub current : s.current ≡ Some generation
  pub counted : s.acquired generation ≡ ticket

-- the caller pins nothing, and nothing is current
pub record IsTooEarly (s : State) (caller : ℕ) : Type 0 where
  pub free : s.pins caller ≡ None
  pub none : s.current ≡ None

-- a slot is open for the generation, which is neither current nor warming, and no caller pins it
pub record CanFree (s : State) (generation : ℕ) : Type 0 where
  pub opened : (slot : ℕ) × (s.slots slot ≡ Some generation)
  pub not_current : s.current ≢ Some generation
  pub not_warming : is_in generation s.warming ≡ false
  pub not_pinned : (caller : ℕ) → s.pins caller ≢ Some generation

-- the entry may come next
abbrev pub IsAllowed : {U D L : Type 0} → Limits → State → Entry U D L → Type 0
IsAllowed l s (Open c u g slot docs) = CanOpen l s g slot
IsAllowed l s (TooMany c u gs) = AreTooMany l s gs
IsAllowed l s (GenerationsSpent c u) = AreSpent l s
IsAllowed l s (Update c u) = Unit {0}
IsAllowed l s (Finish g list) = CanFinish s g
IsAllowed l s (Superseded g by list) = IsSuperseded s g by
IsAllowed l s (Acquire c g k) = CanAcquire s c g k
IsAllowed l s (NotYet c) = IsTooEarly s c
IsAllowed l s (Release c g list) = s.pins c ≡ Some g
IsAllowed l s (Free g) = CanFree s g

-- each entry is allowed after those before it
abbrev pub LegalFrom : {U D L : Type 0} → Limits → State → List (Entry U D L) → Type 0
LegalFrom l s [] = Unit {0}
LegalFrom l s (e ∷ es) = IsAllowed l s e × LegalFrom l (after s e) es

-- the history is a run of the machine
abbrev pub Legal : {U D L : Type 0} → Limits → List (Entry U D L) → Type 0
Legal l h = LegalFrom l (start l) h

-- the state after a history
abbrev pub state_of : {U D L : Type 0} → Limits → List (Entry U D L) → State
state_of l h = fold after (start l) h
