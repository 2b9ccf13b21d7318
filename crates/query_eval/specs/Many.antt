-- Many sets at once.
use Rattle.std.specs.Prelude.{◌≡◌, ℕ, List}
use Rattle.std.specs.List.{list_all, list_any}
use Rattle.std.specs.FinSet.{contains}
use Rattle.doc_sets.specs.Sets.{Numbers}

-- the members of some set of the list
pub record IsUnion (sets : List Numbers) (s : Numbers) : Type 0 where
  pub members : (n : ℕ) → contains s n ≡ list_any (λ t. contains t n) sets

-- the members of each set of the list
pub record IsCommon (sets : List Numbers) (s : Numbers) : Type 0 where
  pub members : (n : ℕ) → contains s n ≡ list_all (λ t. contains t n) sets
