-- Which generations are warming, and for which one a slot is open.
use Rattle.std.specs.Prelude.{◌≡◌, ℕ, List, Option, Some, None}
use Rattle.registry_machine.specs.declared.entry.Entry.{Entry}
use Rattle.registry_machine.specs.Legal.{state_of}
use Rattle.searcher_table.specs.declared.board.Plan.{Plan}
use Rattle.searcher_table.specs.declared.gens.Gens.{Gens}
use Rattle.searcher_table.specs.Words.{limits}

-- the generations that are listed
abbrev pub listed : Gens → List ℕ
listed g = g.list.items

-- a number, or 0 for none
abbrev pub number_of : Option ℕ → ℕ
number_of None = 0
number_of (Some n) = n

module _ {W U X L : Type 0} (p : Plan W) (seen : List (Entry U X L)) where
  -- the generation that was opened last
  abbrev pub last_in : ℕ
  last_in = (state_of (limits p) seen).last_opened

  -- those that are warming, in the order of their openings
  abbrev pub warming_in : List ℕ
  warming_in = (state_of (limits p) seen).warming

  -- the slot is open for the generation
  abbrev pub IsOpenFor : ℕ → ℕ → Type 0
  IsOpenFor slot g = (state_of (limits p) seen).slots slot ≡ Some g

  -- the generation that is current, or 0
  abbrev pub current_in : ℕ
  current_in = number_of (state_of (limits p) seen).current
