-- The answer of a request on a list of documents.
use Rattle.std.specs.Prelude.{ℕ, List, length, take, drop, map, filter, Bool, ◌&&◌}
use Rattle.std.specs.List.{list_all, enumerate_from}
use Rattle.field_schema.specs.declared.field.FieldList.{FieldList}
use Rattle.doc_model.specs.Document.{Document}
use Rattle.query_tree.specs.declared.query.Query.{Query}
use Rattle.query_tree.specs.declared.sort.SortKey.{SortKey}
use Rattle.query_tree.specs.Matches.{top}
use Rattle.sort_order.specs.Order.{Entry, in_order}

-- what a query request asks for
pub record Asked : Type 0 where
  pub query : Query
  pub filters : List Query
  pub sort : List SortKey
  pub start : ℕ
  pub rows : ℕ
  pub fields : FieldList

-- how many documents were found, and those of the page
pub record Answer : Type 0 where
  pub found : ℕ
  pub docs : List Document

-- the document matches the query and every filter
abbrev pub is_hit : Query → List Query → Document → Bool
is_hit query filters d = top d.values query && list_all (top d.values) filters

-- documents, each with its place in the list for a number
abbrev pub entries : List Document → List Entry
entries docs = enumerate_from 0 docs

-- the documents that match the query and every filter, in the order of the sort
abbrev pub hits : List Document → Query → List Query → List SortKey → List Document
hits docs query filters sort = map (λ e. e.1) (in_order sort (filter (λ e. is_hit query filters e.1) (entries docs)))

abbrev pub matching : List Document → Asked → List Document
matching view asked = hits view asked.query asked.filters asked.sort

abbrev pub answer : List Document → Asked → Answer
answer view asked = record {
  found = length (matching view asked);
  docs = take asked.rows (drop asked.start (matching view asked));
}
