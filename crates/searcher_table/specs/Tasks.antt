-- Slots: which are free, what has been begun with them, and what their words count.
use Rattle.std.specs.Prelude.{◌≡◌, ◌≢◌, ◌⊎◌, ℕ, ◌+◌, ◌*◌, ◌<◌, ◌≤◌, Bool, true, false, not, ◌||◌, if◌then◌else◌, List, slice_index, Option, Some, None}
use Rattle.registry_machine.specs.Machine.{Limits, State, is_in, is_some_of}
use Rattle.searcher_table.specs.declared.board.Plan.{Plan}
use Rattle.searcher_table.specs.declared.board.Task.{Task}
use Rattle.searcher_table.specs.declared.board.Task.TheVariants.{Idle, Found, Claimed, Filled, Filling, Unsettled, Duty, Back, Emptied}
use Rattle.searcher_table.specs.declared.board.Fresh.{Fresh}
use Rattle.searcher_table.specs.Words.{slot_word, bit_of, limits}

-- the slot that the registrar has claimed, and the generation whose acquires it has not told yet
abbrev pub claimed : Task → Option ℕ
claimed (Claimed slot) = Some slot
claimed (Filled slot n) = Some slot
claimed (Filling slot n) = Some slot
claimed _ = None

abbrev pub unsettled : Task → Option ℕ
unsettled (Unsettled slot g total) = Some g
unsettled _ = None

-- how many of the first cells are taken out for good
abbrev pub emptied : Task → Option ℕ
emptied (Emptied n) = Some n
emptied _ = None

-- by the registrar's task the acquires of the generation are told to its slot's word: it is neither warming nor current any more, nor is this still to come
abbrev pub is_settled : State → Task → ℕ → Bool
is_settled s own g = not (is_in g s.warming || is_some_of g s.current || is_some_of g (unsettled own))

-- what the word of an open slot is: the releases of its generation, and once it is settled its acquires and 1
abbrev pub counted : State → Task → (ℕ → ℕ) → ℕ → ℕ
counted s own released g = released g + (if is_settled s own g then (s.acquired g + 1) * 4294967296 else 0)

-- the slot is open for none, and not claimed
pub record IsFree (l : Limits) (s : State) (own : Task) (slot : ℕ) : Type 0 where
  pub below : slot < l.slots
  pub none : s.slots slot ≡ None
  pub unclaimed : claimed own ≢ Some slot

-- its bit is 1 exactly where it is free
pub record IsMarked (l : Limits) (s : State) (own : Task) (words : List ℕ) (slot : ℕ) : Type 0 where
  pub free : bit_of words slot ≡ 1 → IsFree l s own slot
  pub marked : IsFree l s own slot → bit_of words slot ≡ 1

-- the slot is open for none, and its word may count
pub record IsClear (l : Limits) (s : State) (words : List ℕ) (slot : ℕ) : Type 0 where
  pub below : slot < l.slots
  pub none : s.slots slot ≡ None
  pub word_is : slice_index words (slot_word slot) ≡ 0

-- the generation in the slot is neither warming nor current, and was acquired so often
pub record IsUnsettled (s : State) (slot g total : ℕ) : Type 0 where
  pub opened : s.slots slot ≡ Some g
  pub not_warming : is_in g s.warming ≡ false
  pub not_current : s.current ≢ Some g
  pub total_is : s.acquired g ≡ total

-- the generation in the slot is settled and was released as often as acquired, and who has the duty pins nothing
pub record IsDuty {W : Type 0} (p : Plan W) (s : State) (own : Task) (released : ℕ → ℕ) (c slot g : ℕ) : Type 0 where
  pub opened : s.slots slot ≡ Some g
  pub settled : is_settled s own g ≡ true
  pub drained : released g ≡ s.acquired g
  pub unpinned : s.pins c ≡ None
  pub within : c ≤ p.callers

-- what a task says is true; 0 stands for the registrar
abbrev pub IsTask : {W : Type 0} → Plan W → State → Task → (ℕ → ℕ) → List ℕ → ℕ → Task → Type 0
IsTask p s own released words c Idle = Unit {0}
IsTask p s own released words c (Found slot) = (c ≡ 0) × IsFree (limits p) s own slot
IsTask p s own released words c (Claimed slot) = (c ≡ 0) × (slot < (limits p).slots) × (s.slots slot ≡ None)
IsTask p s own released words c (Filled slot n) = (c ≡ 0) × IsClear (limits p) s words slot
IsTask p s own released words c (Filling slot n) = (c ≡ 0) × IsClear (limits p) s words slot
IsTask p s own released words c (Unsettled slot g total) = (c ≡ 0) × IsUnsettled s slot g total
IsTask p s own released words c (Duty slot g) = IsDuty p s own released c slot g
IsTask p s own released words c Back = Unit {0}
IsTask p s own released words c (Emptied n) = Unit {0}

-- Part three: masks, the words of slots, and what is begun, by the registrar's task. A settled generation that was released as often as acquired is the duty of one.
pub record Three {W : Type 0} (p : Plan W) (s : State) (released : ℕ → ℕ) (own : Task) (tasks : ℕ → Task) (words : List ℕ) : Type 0 where
  pub masks : (slot : ℕ) → slot < 128 → IsMarked (limits p) s own words slot
  pub counts : (slot g : ℕ) → slot < 70 → s.slots slot ≡ Some g → slice_index words (slot_word slot) ≡ counted s own released g
  pub begun : (c : ℕ) → IsTask p s own released words c (tasks c)
  pub drained : (slot g : ℕ) → s.slots slot ≡ Some g → is_settled s own g ≡ true → released g ≡ s.acquired g → (c : ℕ) × (tasks c ≡ Duty slot g)
  pub alone : (c d a b g : ℕ) → tasks c ≡ Duty a g → tasks d ≡ Duty b g → c ≡ d

-- a slot is open only for what is current or warming, and nobody pins anything
pub record IsOver (s : State) : Type 0 where
  pub slots : (slot g : ℕ) → s.slots slot ≡ Some g → (s.current ≡ Some g) ⊎ (is_in g s.warming ≡ true)
  pub pins : (c : ℕ) → s.pins c ≡ None

-- the generation is warming, and has this slot
pub record IsWarming (s : State) (f : Fresh) : Type 0 where
  pub warming : is_in f.generation s.warming ≡ true
  pub opened : s.slots f.slot ≡ Some f.generation
