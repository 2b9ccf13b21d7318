-- What each kind of step tells the seat that makes it, and how views are split and joined.
use Rattle.std.specs.Prelude.{◌≡◌, ◌≢◌, ℕ, ◌+◌, ◌<◌, ◌≤◌, true, List, [], ◌∷◌, ◌++◌, Option, Some, None}
use Rattle.atomic_table.specs.Table.{Me, Step}
use Rattle.view_cells.specs.declared.board.Setting.{Setting}
use Rattle.view_cells.specs.declared.board.Known.{Known}
use Rattle.view_cells.specs.Lists.{names, AreDistinct, entries_of, with_first, first_alone, others}
use Rattle.view_cells.specs.Rule.{number}

module _ {T W E : Type 0} where
  -- the seats that are split off have the numbers behind the first
  abbrev pub first_only : Known T W E → Known T W E
  first_only k = record k { lists = first_alone k.lists }

  abbrev pub rest_only : Known T W E → Known T W E
  rest_only k = record k { taken = None; lists = others k.lists; tries = [] }

  -- a seat that takes in another has its numbers too
  abbrev pub joined : Known T W E → Known T W E → Known T W E
  joined k other = record k { lists = k.lists ++ other.lists }

  -- a seat that was joined into another
  abbrev pub spent : Known T W E
  spent = record { setting = None; taken = None; lists = []; tries = [] }

  -- the seat has read the lock word once more, and found this
  abbrev pub looked : Known T W E → ℕ → Known T W E
  looked k found = record k { tries = k.tries ++ found ∷ [] }

  -- all seats are this one or were joined into it
  abbrev pub HasAllSeats : Known T W E → Type 0
  HasAllSeats k = (about : Setting W) → k.setting ≡ Some about → (n : ℕ) → n < about.seats → names n k.lists ≡ true

  -- a word that names a seat of the table
  abbrev pub NamesASeat : Known T W E → ℕ → Type 0
  NamesASeat k lock = (about : Setting W) → k.setting ≡ Some about → lock ≤ about.seats

  module _ (Fit : W → T → Type 0) (entries : T → ℕ → List E) where
    -- the value fits what the seat was told, and what it keeps of the seat's numbers is what the seat's lists say
    pub record IsLent (k : Known T W E) (value : T) : Type 0 where
      pub fits : (about : Setting W) → k.setting ≡ Some about → Fit about.view.value value
      pub lists : (n : ℕ) → names n k.lists ≡ true → entries value n ≡ entries_of n k.lists

    -- the value was taken out of its cell; or the word names another seat, and nothing has changed
    pub record Took (step : Step (Option T)) (before : Me (Option T) (Known T W E)) (found : ℕ) (after : Me (Option T) (Known T W E)) : Type 0 where
      pub free : found ≡ 0 → (value : T) × (after ≡ (record (looked before.0 0) { taken = Some value }, (0, Some value) ∷ [])) × IsLent before.0 value
      pub busy : found ≢ 0 → (after ≡ (looked before.0 found, before.1)) × (found ≢ number before.0 + 1) × NamesASeat before.0 found
      pub sole : HasAllSeats before.0 → found ≡ 0
      pub distinct : AreDistinct before.0.lists

    -- the value is back in its cell, and the seat's own list is what it keeps of the seat
    abbrev pub LetGo : Step (Option T) → Me (Option T) (Known T W E) → ℕ → Me (Option T) (Known T W E) → Type 0
    LetGo step before stored after = (value : T) → before.1 ≡ (0, Some value) ∷ []
        → after ≡ (record before.0 { taken = None; lists = with_first (entries value (number before.0)) before.0.lists }, [])
