-- The numbers of the documents of a view of which a test holds.
use Rattle.std.specs.Prelude.{◌≡◌, ℕ, List, Bool, Result, IfOk, map, filter}
use Rattle.std.specs.FinSet.{from_list}
use Rattle.doc_model.specs.Document.{Document}
use Rattle.doc_sets.specs.Sets.{Numbers}
use Rattle.query_tree.specs.declared.query.Query.{Query}
use Rattle.query_tree.specs.Matches.{matches, top}
use Rattle.segment_postings.specs.Numbered.{Numbered}

-- the numbers of the documents that pass, in their order
abbrev pub numbers_where : (Document → Bool) → List (ℕ × Document) → List ℕ
numbers_where p list = map (λ e. e.0) (filter (λ e. p e.1) list)

-- the set of them
unfoldable pub found : (Document → Bool) → Numbered → Numbers
found p v = from_list (numbers_where p v.list)

-- what a query finds where it is the whole query
abbrev pub answer : Query → Numbered → Numbers
answer q v = found (λ d. top d.values q) v

-- what a query finds where it stands inside another
abbrev pub part : Query → Numbered → Numbers
part q v = found (λ d. matches d.values q) v

-- for private clauses: a call answers with the set of them
abbrev pub Finds : {E : Type 0} → Result Numbers E → (Document → Bool) → Numbered → Type 0
Finds result p v = IfOk result (λ s. s ≡ found p v)
