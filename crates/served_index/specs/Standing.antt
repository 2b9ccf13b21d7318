-- For private clauses alone: the documents of a view that are left, and what each index is.
use Rattle.std.specs.Prelude.{◌≡◌, ℕ, ◌+◌, ◌<◌, ◌≤◌, List, ◌++◌, Bool, true, ◌&&◌, not, map, filter, All}
use Rattle.std.specs.List.{list_any}
use Rattle.field_schema.specs.declared.key.Key.TheVariants as key
use Rattle.doc_model.specs.Document.{Document}
use Rattle.doc_sets.specs.Sets.{is_in}
use Rattle.doc_sets.specs.declared.TheConstants.{MAX_DOCS}
use Rattle.query_tree.specs.declared.query.Query.{Query}
use Rattle.query_tree.specs.Matches.{top}
use Rattle.segment_postings.specs.Numbered.{Numbered, docs}
use Rattle.segment_postings.specs.Postings.{has_key_at}
use Rattle.search_model.specs.Live.{has_id}
use Rattle.served_index.specs.IndexState.{IndexState}
use Rattle.served_index.specs.Pendings.{PendingState}

-- the numbers of the documents that pass, in their order
abbrev pub numbers_where : (Document → Bool) → List (ℕ × Document) → List ℕ
numbers_where p list = map (λ e. e.0) (filter (λ e. p e.1) list)

-- the numbers of the documents that a query matches
abbrev pub matching : Query → Numbered → List ℕ
matching q v = numbers_where (λ d. top d.values q) v.list

-- the documents of the view whose numbers are not among those that are gone
abbrev pub staying : Numbered → List ℕ → List Document
staying v gone = map (λ e. e.1) (filter (λ e. not (is_in gone e.0)) v.list)

-- what contracts see of an index
abbrev pub state : Numbered → List ℕ → PendingState → IndexState
state v gone pending = record {
  docs = staying v gone ++ pending.docs;
  served = docs v;
  numbers = v.size + pending.slots;
}

-- the document has this unique key, and has it in the field
abbrev pub is_under : ℕ → List ℕ → Document → Bool
is_under field id d = has_key_at field (key.Str id) d && has_id id d

-- each document has its unique key in one of the fields
abbrev pub HaveIds : List ℕ → List Document → Type 0
HaveIds fields ds = All (λ d. list_any (λ field. has_key_at field (key.Str d.id) d) fields ≡ true) ds

-- each number is below the greatest count of documents
abbrev pub AreBelow : List ℕ → Type 0
AreBelow numbers = All (λ n. n < MAX_DOCS) numbers

-- what each index is, whose documents have their unique keys in these fields
pub record IsIndex (v : Numbered) (gone : List ℕ) (pending : PendingState) (fields : List ℕ) : Type 0 where
  pub most : v.size + pending.slots ≤ MAX_DOCS
  pub below : AreBelow gone
  pub ids : HaveIds fields (docs v)
  pub pending_ids : HaveIds fields pending.docs
