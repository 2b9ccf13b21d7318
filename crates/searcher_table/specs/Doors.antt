-- Doors: in which cells they lie, and what they show.
use Rattle.std.specs.Prelude.{◌≡◌, ◌≢◌, ℕ, ◌+◌, ◌-◌, ◌*◌, ◌<◌, ◌≤◌, ◌==◌, if◌then◌else◌, List, [], length, fold, Option, Some, None}
use mathlib.Core.Option.{some}
use mathlib.Core.Option as maybe
use lib.ListN.{get_elem?}
use Rattle.registry_machine.specs.declared.entry.Entry.{Entry}
use Rattle.registry_machine.specs.declared.entry.Entry.TheVariants.{Open, Release}
use Rattle.registry_machine.specs.Machine.{State}
use Rattle.searcher_table.specs.declared.board.Cell.{Cell}
use Rattle.searcher_table.specs.declared.board.Cell.TheVariants.{Empty, Full}
use Rattle.searcher_table.specs.declared.board.Plan.{Plan}
use Rattle.searcher_table.specs.declared.board.Task.{Task}
use Rattle.searcher_table.specs.declared.board.Task.TheVariants.{Filled, Filling}
use Rattle.searcher_table.specs.Words.{limits}
use Rattle.searcher_table.specs.Tasks.{emptied}

-- the cell of a slot's caller
abbrev pub cell_of : ℕ → ℕ → ℕ
cell_of slot c = 64 * slot + c - 1

-- the slot that the registrar fills, and how many doors it has laid there
abbrev pub laid : Task → ℕ × ℕ
laid (Filled slot n) = (slot, n)
laid (Filling slot n) = (slot, n)
laid _ = (0, 0)

-- the cell that it has out
abbrev pub reached : Task → Option ℕ
reached (Filling slot n) = Some (cell_of slot (n + 1))
reached _ = None

-- the cell is not emptied for good
abbrev pub IsIn : Task → ℕ → Type 0
IsIn own k = (n : ℕ) → emptied own ≡ Some n → n ≤ k

-- the cell of a slot's caller has what an earlier generation left there: no door is laid into it yet, nor is it out
pub record IsOld (own : Task) (slot c : ℕ) : Type 0 where
  pub unfilled : slot ≡ (laid own).0 → (laid own).1 < c
  pub home : reached own ≢ Some (cell_of slot c)
  pub within : IsIn own (cell_of slot c)

module _ {U X L : Type 0} where
  -- the documents that a generation shows, by its opening
  abbrev pub shown_after : (ℕ → Option X) → Entry U X L → ℕ → Option X
  shown_after shown (Open c u g slot docs) h = if h == g then Some docs else shown h
  shown_after shown _ h = shown h

  abbrev pub shown_in : List (Entry U X L) → ℕ → Option X
  shown_in log = fold shown_after (λ g. None) log

  -- the deeds that a caller's door to it is left with, by the caller's last release of it
  abbrev pub left_after : (ℕ → ℕ → List L) → Entry U X L → ℕ → ℕ → List L
  left_after left (Open c u g slot docs) h d = if h == g then [] else left h d
  left_after left (Release c g list) h d = if h == g then (if d == c then list else left h d) else left h d
  left_after left _ h d = left h d

  abbrev pub left_in : List (Entry U X L) → ℕ → ℕ → List L
  left_in log = fold left_after (λ g c. []) log

  -- the generation that a slot was opened for last
  abbrev pub held_after : (ℕ → Option ℕ) → Entry U X L → ℕ → Option ℕ
  held_after held (Open c u g slot docs) b = if b == slot then Some g else held b
  held_after held _ b = held b

  abbrev pub held_in : List (Entry U X L) → ℕ → Option ℕ
  held_in log = fold held_after (λ slot. None) log

  -- both
  abbrev pub told_in : List (Entry U X L) → ℕ → ℕ → Option X × List L
  told_in log g c = (shown_in log g, left_in log g c)

module _ {D W X : Type 0} (setting : D → W) (docs : D → X) (p : Plan W) where
  -- the door shows the table's setting and these documents
  pub record IsDoor (shown : Option X) (d : D) : Type 0 where
    pub setting_is : setting d ≡ p.setting.value
    pub shows : Some (docs d) ≡ shown

module _ {D W X L : Type 0} (setting : D → W) (docs : D → X) (deeds : D → List L) (p : Plan W) where
  -- and it is left with these deeds
  abbrev pub IsDoorLeft : Option X × List L → D → Type 0
  IsDoorLeft told d = IsDoor setting docs p told.0 d × (deeds d ≡ told.1)

  module _ {U : Type 0} where
    -- such a door lies in the cell
    abbrev pub IsDoorAt : List (maybe.Option (Cell D U)) → ℕ → Option X × List L → Type 0
    IsDoorAt homes k told = (d : D) × (get_elem? homes k ≡ some (some (Full d))) × IsDoorLeft told d

    -- what a slot's cell has while the slot is open for none: the door to the generation before, as its caller left it; and nothing where there was none
    abbrev pub IsLeft : Option ℕ → (ℕ → Option X × List L) → Cell D U → Type 0
    IsLeft None told x = x ≡ Empty
    IsLeft (Some g) told x = (d : D) × (x ≡ Full d) × IsDoorLeft (told g) d

    abbrev pub IsLeftAt : List (maybe.Option (Cell D U)) → ℕ → Option ℕ → (ℕ → Option X × List L) → Type 0
    IsLeftAt homes k held told = (x : Cell D U) × (get_elem? homes k ≡ some (some x)) × IsLeft held told x

    -- Part four: where the slot of a generation has the door of each caller that doesn't pin it, and what else lies at home.
    pub record Four (s : State) (told : ℕ → ℕ → Option X × List L) (held : ℕ → Option ℕ) (own : Task) (filling : Option X) (homes : List (maybe.Option (Cell D U))) : Type 0 where
      pub size : length homes ≡ 64 * (limits p).slots
      pub doors : (slot g c : ℕ) → s.slots slot ≡ Some g → 1 ≤ c → c ≤ p.callers → s.pins c ≢ Some g → IsIn own (cell_of slot c) → IsDoorAt homes (cell_of slot c) (told g c)
      pub spare : (slot c : ℕ) → slot < (limits p).slots → s.slots slot ≡ None → 1 ≤ c → c ≤ p.callers → IsOld own slot c → IsLeftAt homes (cell_of slot c) (held slot) (λ g. told g c)
      pub opened : (slot g : ℕ) → s.slots slot ≡ Some g → held slot ≡ Some g
      pub filled : (c : ℕ) → 1 ≤ c → c ≤ (laid own).1 → c ≤ p.callers → IsDoorAt homes (cell_of (laid own).0 c) (filling, [])
