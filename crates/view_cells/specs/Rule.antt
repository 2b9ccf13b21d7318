-- The rule of a table of one value: what holds between any two steps.
use Rattle.std.specs.Prelude.{◌≡◌, ◌≢◌, ℕ, ◌+◌, ◌-◌, ◌<◌, true, List, [], length, slice_index, Option, Some, None}
use mathlib.Core.Option.{some}
use mathlib.Core.Option as maybe
use lib.ListN.{get_elem?}
use Rattle.atomic_table.specs.Table.{State}
use Rattle.view_cells.specs.declared.board.Setting.{Setting}
use Rattle.view_cells.specs.declared.board.Known.{Known}
use Rattle.view_cells.specs.Lists.{names, AreDistinct, entries_of, first_number, blank}

-- the number of the seat that knows this
abbrev pub number : {T W E : Type 0} → Known T W E → ℕ
number k = first_number k.lists

-- the first seat, which has the numbers of all seats until they are split off
abbrev pub opened : {T W E : Type 0} → Setting W → Known T W E
opened about = record { setting = Some about; taken = None; lists = blank 0 about.seats; tries = [] }

module _ {T W E : Type 0} (Fit : W → T → Type 0) (entries : T → ℕ → List E) (about : Setting W) where
  -- There is one value, at home or out, and each number is one seat's.
  -- the lock word is `lock`, and `home` is what the cell shows
  module _ (lock : ℕ) (home : maybe.Option (maybe.Option (Option T))) (knows : List (Known T W E)) (value : T) (owner : ℕ → ℕ) where
    -- where the lock word is 0 the value is at home
    abbrev pub IsHomeUnlessLocked : Type 0
    IsHomeUnlessLocked = lock ≡ 0 → home ≡ some (some (Some value))

    -- where it isn't 0, the seat whose number it names has taken the value
    abbrev pub IsTakenIfLocked : Type 0
    IsTakenIfLocked = lock ≢ 0 → (k : Known T W E) × (get_elem? knows (owner (lock - 1)) ≡ some k) × (lock ≡ number k + 1) × (k.taken ≡ Some value)

    -- a seat that has taken the value is the one that the lock word names
    abbrev pub HoldsByLock : Known T W E → Type 0
    HoldsByLock k = (taken : T) → k.taken ≡ Some taken → (taken ≡ value) × (lock ≡ number k + 1) × (names (number k) k.lists ≡ true)

    -- the numbers of a seat are its own, and its lists are what the value keeps of them
    abbrev pub OwnsLists : ℕ → Known T W E → Type 0
    OwnsLists id k = (n : ℕ) → names n k.lists ≡ true → (k.setting ≡ Some about) × (n < about.seats) × (owner n ≡ id) × (entries value n ≡ entries_of n k.lists)

    pub record Holds : Type 0 where
      pub value_fits : Fit about.view.value value
      pub at_home : IsHomeUnlessLocked
      pub if_locked : IsTakenIfLocked
      pub by_lock : (id : ℕ) (k : Known T W E) → get_elem? knows id ≡ some k → HoldsByLock k
      pub lists : (id : ℕ) (k : Known T W E) → get_elem? knows id ≡ some k → OwnsLists id k
      pub distinct : (id : ℕ) (k : Known T W E) → get_elem? knows id ≡ some k → AreDistinct k.lists

  -- The table's words are the lock word and those round it.
  pub record Kept (s : State (Option T) (Known T W E)) : Type 0 where
    pub words : length s.words ≡ 16
    pub value : T
    pub owner : ℕ → ℕ
    pub holds : Holds (slice_index s.words 8) (get_elem? s.homes 0) s.views value owner
