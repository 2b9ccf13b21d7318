-- Sets of document numbers, and lists of them in order.
use Rattle.std.specs.Prelude.{◌≡◌, ℕ, suc, ◌<◌, ◌≤◌, Bool, true, List, [], ◌∷◌, nat_eq, filter, All}
use Rattle.std.specs.List.{list_any, range_with_len}
use Rattle.std.specs.List.Sorted.{IsStrictlyIncreasing}
use Rattle.std.specs.Ordering.{nat_cmp}
use Rattle.std.specs.FinSet.{FinSet, contains}
use Rattle.doc_sets.specs.declared.TheConstants.{MAX_DOCS}

-- a set of numbers
abbrev pub Numbers : Type 0
Numbers = FinSet nat_cmp

-- the members below `limit`, ascending
unfoldable pub members_below : ℕ → Numbers → List ℕ
members_below limit s = filter (contains s) (range_with_len 0 limit)

-- the members that are numbers of documents, ascending
abbrev pub members : Numbers → List ℕ
members s = members_below MAX_DOCS s

-- each member is the number of a document
abbrev pub AreDocuments : Numbers → Type 0
AreDocuments s = (n : ℕ) → contains s n ≡ true → n < MAX_DOCS

-- whether the number stands in the list
abbrev pub is_in : List ℕ → ℕ → Bool
is_in xs n = list_any (λ x. nat_eq x n) xs

-- the list strictly ascends, from `low` on and below `high`
abbrev pub Rises : ℕ → ℕ → List ℕ → Type 0
Rises low high [] = Unit {0}
Rises low high (x ∷ xs) = (low ≤ x) × (x < high) × Rises (suc x) high xs

-- the list is of documents' numbers and strictly ascends
abbrev pub IsAscending : List ℕ → Type 0
IsAscending xs = Rises 0 MAX_DOCS xs

-- the list has all members and nothing else, each once, ascending, and each is the number of a document
pub record IsListing (s : Numbers) (xs : List ℕ) : Type 0 where
  pub rising : IsStrictlyIncreasing xs
  pub documents : All (λ n. n < MAX_DOCS) xs
  pub same : (n : ℕ) → is_in xs n ≡ contains s n
