-- Documents with their numbers, as contracts see those of a view.
use Rattle.std.specs.Prelude.{ℕ, ◌+◌, ◌≤◌, List, [], ◌++◌, Option, IsSome, not, map, filter, find, length, nat_eq, slice_get}
use Rattle.std.specs.List.{enumerate_from}
use Rattle.std.specs.Option.{option_map}
use Rattle.std.specs.FinSet.{contains}
use Rattle.field_schema.specs.declared.key.Key.{Key}
use Rattle.field_schema.specs.Values.{values_at}
use Rattle.doc_model.specs.Document.{Document}
use Rattle.doc_sets.specs.Sets.{Numbers, Rises}
use Rattle.doc_sets.specs.declared.TheConstants.{MAX_DOCS}

-- the live documents in index order, each with its number, and the size of the view
pub record Numbered : Type 0 where
  pub list : List (ℕ × Document)
  pub size : ℕ

-- the numbers alone
abbrev pub numbers : Numbered → List ℕ
numbers v = map (λ e. e.0) v.list

-- the documents alone
abbrev pub docs : Numbered → List Document
docs v = map (λ e. e.1) v.list

-- the numbers ascend strictly, and the size is greater than each of them
pub record IsNumbered (v : Numbered) : Type 0 where
  pub rising : Rises 0 v.size (numbers v)
  pub most : v.size ≤ MAX_DOCS

-- the document of a number
abbrev pub doc_at : Numbered → ℕ → Option Document
doc_at v n = option_map (λ e. e.1) (find (λ e. nat_eq e.0 n) v.list)

-- a live document has the number
abbrev pub IsLive : Numbered → ℕ → Type 0
IsLive v n = IsSome (doc_at v n)

-- what a document is sorted by in a field: the first of its values
abbrev pub sort_value : Document → ℕ → Option Key
sort_value d field = slice_get (values_at d.values field) 0

-- the view of no document
abbrev pub no_docs : Numbered
no_docs = record { list = []; size = 0 }

-- without the documents that are gone, and with those that are added behind them
abbrev pub extended : Numbered → Numbers → List Document → Numbered
extended v gone added = record {
  list = filter (λ e. not (contains gone e.0)) v.list ++ enumerate_from v.size added;
  size = v.size + length added;
}
