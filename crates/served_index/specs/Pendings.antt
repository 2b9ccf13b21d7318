-- For private clauses alone: documents in slots, some of which are empty, and the slots by unique keys.
use Rattle.std.specs.Prelude.{◌≡◌, ℕ, List, Option, Some, None, option_map, option_and_then, slice_get, slice_set, if◌then◌else◌}
use Rattle.std.specs.List.{filter_map}
use Rattle.std.specs.Arc.{arc_value}
use Rattle.std.specs.declared.sync.Arc.{Arc}
use Rattle.std.specs.BTreeMap.{BTreeMap, get}
use Rattle.field_schema.specs.Bytes.{bytes_cmp}
use Rattle.doc_model.specs.Document.{Document}
use Rattle.query_tree.specs.declared.query.Query.{Query}
use Rattle.query_tree.specs.Matches.{top}
use Rattle.search_model.specs.Live.{after, added}

-- the documents in their order, and how many slots there are
pub record PendingState : Type 0 where
  pub docs : List Document
  pub slots : ℕ

-- the slots after the one at a place is emptied, if there is a place
abbrev pub emptied : {X : Type 0} → Option ℕ → List (Option X) → List (Option X)
emptied None slots = slots
emptied (Some i) slots = slice_set slots i None

-- documents, and one more behind them unless the query matches it
abbrev pub kept_with : List Document → Query → Document → List Document
kept_with ds q d = if top d.values q then ds else after ds (added d)

module _ {Z : Type 0} where
  -- the documents of the slots that are filled
  abbrev pub documents : List (Option (Arc Document Z)) → List Document
  documents slots = filter_map (option_map arc_value) slots

  abbrev pub id_of : Arc Document Z → List ℕ
  id_of a = let d : Document = arc_value a in d.id

  -- the unique key of the document in a slot, if there is one
  abbrev pub id_in : List (Option (Arc Document Z)) → ℕ → Option (List ℕ)
  id_in slots i = option_map id_of (option_and_then (λ s. s) (slice_get slots i))

  -- the map leads from each unique key to the slot of the document with it
  pub record IsPlaced (slots : List (Option (Arc Document Z))) (places : BTreeMap (List ℕ) ℕ) : Type 0 where
    pub leads : (id : List ℕ) (i : ℕ) → get bytes_cmp places id ≡ Some i → id_in slots i ≡ Some id
    pub found : (id : List ℕ) (i : ℕ) → id_in slots i ≡ Some id → get bytes_cmp places id ≡ Some i
