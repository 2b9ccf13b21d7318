-- Where the entries of a history stand: by index among all of them, by place among those of the journal.
use Rattle.std.specs.Prelude.{◌≡◌, ℕ, List, take, count_by, Option, Some, slice_get}
use Rattle.registry_machine.specs.declared.entry.Entry.{Entry}
use Rattle.registry_machine.specs.Entries.{has_place}

-- the number of entries with a place among the first n: the place of the entry at index n, where it has one
abbrev pub rank : {U D L : Type 0} → List (Entry U D L) → ℕ → ℕ
rank h n = count_by has_place (take n h)

-- the entry at index n tells x
pub record Stands {U D L X : Type 0} (tells : Entry U D L → Option X) (h : List (Entry U D L)) (n : ℕ) (x : X) : Type 0 where
  pub entry : Entry U D L
  pub at : slice_get h n ≡ Some entry
  pub told : tells entry ≡ Some x
