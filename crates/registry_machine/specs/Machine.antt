-- The registry of searchers as a machine: its state, and what each entry of its history does to it.
use Rattle.std.specs.Prelude.{ℕ, ◌+◌, ◌-◌, List, [], ◌∷◌, ◌++◌, Bool, false, not, ◌==◌, ◌||◌, if◌then◌else◌, Option, Some, None, filter}
use Rattle.registry_machine.specs.declared.entry.Entry.{Entry}
use Rattle.registry_machine.specs.declared.entry.Entry.TheVariants.{Open, Finish, Superseded, Acquire, Release, Free}

-- the greatest number of warming generations, the number of slots, and the first and the last generation that can be opened
pub record Limits : Type 0 where
  pub max_warming : ℕ
  pub slots : ℕ
  pub first_generation : ℕ
  pub last_generation : ℕ

-- the current generation, the last one opened, the warming ones in the order of their openings, the generation that each slot is open for, the one that each caller pins, and how often each generation was acquired
pub record State : Type 0 where
  pub current : Option ℕ
  pub last_opened : ℕ
  pub warming : List ℕ
  pub slots : ℕ → Option ℕ
  pub pins : ℕ → Option ℕ
  pub acquired : ℕ → ℕ

-- before the first entry
abbrev pub start : Limits → State
start l = record {
  current = None;
  last_opened = l.first_generation - 1;
  warming = [];
  slots = λ slot. None;
  pins = λ caller. None;
  acquired = λ generation. 0;
}

abbrev pub is_in : ℕ → List ℕ → Bool
is_in g [] = false
is_in g (x ∷ xs) = x == g || is_in g xs

abbrev pub is_some_of : ℕ → Option ℕ → Bool
is_some_of n None = false
is_some_of n (Some m) = m == n

-- ---- what an entry does

-- a registration makes its generation current
abbrev pub current_after : {U D L : Type 0} → Option ℕ → Entry U D L → Option ℕ
current_after now (Finish g l) = Some g
current_after now _ = now

-- an opening makes its generation the last one opened
abbrev pub last_after : {U D L : Type 0} → ℕ → Entry U D L → ℕ
last_after last (Open c u g s docs) = g
last_after last _ = last

-- an opened generation is warming until it is registered or superseded
abbrev pub warming_after : {U D L : Type 0} → List ℕ → Entry U D L → List ℕ
warming_after gs (Open c u g s docs) = gs ++ g ∷ []
warming_after gs (Finish g l) = filter (λ x. not (x == g)) gs
warming_after gs (Superseded g by l) = filter (λ x. not (x == g)) gs
warming_after gs _ = gs

-- a slot is open for the generation that was opened in it, until that is freed
abbrev pub slots_after : {U D L : Type 0} → (ℕ → Option ℕ) → Entry U D L → ℕ → Option ℕ
slots_after slots (Open c u g s docs) slot = if slot == s then Some g else slots slot
slots_after slots (Free g) slot = if is_some_of g (slots slot) then None else slots slot
slots_after slots _ slot = slots slot

-- a caller pins what it acquired until it releases it
abbrev pub pins_after : {U D L : Type 0} → (ℕ → Option ℕ) → Entry U D L → ℕ → Option ℕ
pins_after pins (Acquire c g k) caller = if caller == c then Some g else pins caller
pins_after pins (Release c g l) caller = if caller == c then None else pins caller
pins_after pins _ caller = pins caller

-- an acquire counts for its generation
abbrev pub acquired_after : {U D L : Type 0} → (ℕ → ℕ) → Entry U D L → ℕ → ℕ
acquired_after acquired (Acquire c g k) generation = if generation == g then acquired generation + 1 else acquired generation
acquired_after acquired _ generation = acquired generation

-- the state after an entry
abbrev pub after : {U D L : Type 0} → State → Entry U D L → State
after s e = record {
  current = current_after s.current e;
  last_opened = last_after s.last_opened e;
  warming = warming_after s.warming e;
  slots = slots_after s.slots e;
  pins = pins_after s.pins e;
  acquired = acquired_after s.acquired e;
}
