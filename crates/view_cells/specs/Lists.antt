-- Lists of entries by the seats' numbers.
use Rattle.std.specs.Prelude.{◌≡◌, ℕ, zero, suc, ◌+◌, ⊤, Bool, false, ◌||◌, ◌==◌, if◌then◌else◌, List, [], ◌∷◌}
use Rattle.view_cells.specs.declared.board.Listing.{Listing}

module _ {E : Type 0} where
  -- whether the seat n is among them
  abbrev pub names : ℕ → List (Listing E) → Bool
  names n [] = false
  names n (l ∷ ls) = (l.number == n) || names n ls

  -- no number stands twice
  abbrev pub AreDistinct : List (Listing E) → Type 0
  AreDistinct [] = ⊤
  AreDistinct (l ∷ ls) = (names l.number ls ≡ false) × AreDistinct ls

  -- the entries of the seat n
  abbrev pub entries_of : ℕ → List (Listing E) → List E
  entries_of n [] = []
  entries_of n (l ∷ ls) = if l.number == n then l.entries else entries_of n ls

  -- the number of the first
  abbrev pub first_number : List (Listing E) → ℕ
  first_number [] = 0
  first_number (l ∷ ls) = l.number

  -- the entries of the first become these
  abbrev pub with_first : List E → List (Listing E) → List (Listing E)
  with_first es [] = []
  with_first es (l ∷ ls) = record l { entries = es } ∷ ls

  abbrev pub first_alone : List (Listing E) → List (Listing E)
  first_alone [] = []
  first_alone (l ∷ ls) = l ∷ []

  abbrev pub others : List (Listing E) → List (Listing E)
  others [] = []
  others (l ∷ ls) = ls

  -- empty lists of so many seats, numbered from the first on
  abbrev pub blank : ℕ → ℕ → List (Listing E)
  blank first zero = []
  blank first (suc n) = record { number = first; entries = [] } ∷ blank (first + 1) n
