-- The documents that a list of changes leaves.
use Rattle.std.specs.Prelude.{ℕ, List, [], ◌∷◌, ◌++◌, Bool, not, filter, fold, take}
use Rattle.field_schema.specs.Bytes.{bytes_eq}
use Rattle.doc_model.specs.Document.{Document}
use Rattle.query_tree.specs.declared.query.Query.{Query}
use Rattle.query_tree.specs.Matches.{top}

-- what an entry of the journal changes
pub data Change : Type 0 where
  added : Document → Change
  deleted_id : List ℕ → Change
  deleted_query : Query → Change
  nothing : Change

-- the document has this unique key
abbrev pub has_id : List ℕ → Document → Bool
has_id id d = bytes_eq id d.id

-- the documents after a change: an added one replaces that with its unique key and stands last
abbrev pub after : List Document → Change → List Document
after docs (added d) = filter (λ e. not (has_id d.id e)) docs ++ d ∷ []
after docs (deleted_id id) = filter (λ e. not (has_id id e)) docs
after docs (deleted_query q) = filter (λ d. not (top d.values q)) docs
after docs nothing = docs

-- the documents that the changes leave, in index order
abbrev pub live : List Change → List Document
live changes = fold after [] changes

-- what a searcher sees that was opened at a place of the journal
abbrev pub view_at : List Change → ℕ → List Document
view_at journal opened = live (take opened journal)
