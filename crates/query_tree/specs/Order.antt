-- The order of ends, sorts and queries. Values that the order does not tell apart are equal.
use Rattle.std.specs.Prelude.{ℕ, List, [], ◌∷◌, Bool}
use Rattle.std.specs.Ordering.{nat_cmp, ordering_then, is_eq}
use Rattle.std.specs.declared.cmp.Ordering.{Ordering}
use Rattle.std.specs.Cmp.Lexicographic.{slice_cmp}
use Rattle.field_schema.specs.declared.key.Key.{Key}
use Rattle.field_schema.specs.Bytes.{texts_cmp}
use Rattle.field_schema.specs.Keys.{key_cmp}
use Rattle.query_tree.specs.declared.query.End.{End}
use Rattle.query_tree.specs.contracts.query.EndOrd.TheImpl as end_ord
use Rattle.query_tree.specs.declared.query.Query.{Query, fold-Query, out-Query}
use Rattle.query_tree.specs.declared.query.Query.TheOpen.{Query-F}
use Rattle.query_tree.specs.declared.query.Query.TheOpen as node
use Rattle.query_tree.specs.contracts.sort.SortKeyOrd.TheImpl as sort_key_ord
use Rattle.query_tree.specs.declared.sort.SortKey.{SortKey}

-- ---- sorts

-- the order of keys of sorts: what is compared, fields by their place and the index order last; then the direction
abbrev pub sort_key_cmp : SortKey → SortKey → Ordering
sort_key_cmp = (sort_key_ord.ghosts).cmp

-- the first keys that differ
abbrev pub sort_cmp : List SortKey → List SortKey → Ordering
sort_cmp = slice_cmp sort_key_cmp

-- ---- ends

-- an open end first, then by key, then the end that leaves out its key
abbrev pub end_cmp : End → End → Ordering
end_cmp = (end_ord.ghosts).cmp

-- ---- queries

module _ {A : Type 0} where
  -- the place of its kind among the kinds
  abbrev pub kind : Query-F A → ℕ
  kind node.All = 0
  kind (node.Exists field) = 1
  kind (node.Term field k) = 2
  kind (node.Words field ws) = 3
  kind (node.Prefix field p) = 4
  kind (node.Range field a b) = 5
  kind (node.Bool must should not_) = 6

  -- the field, or 0 where there is none
  abbrev pub field_of : Query-F A → ℕ
  field_of (node.Exists field) = field
  field_of (node.Term field k) = field
  field_of (node.Words field ws) = field
  field_of (node.Prefix field p) = field
  field_of (node.Range field a b) = field
  field_of x = 0

  -- the key of a Term
  abbrev pub keys_of : Query-F A → List Key
  keys_of (node.Term field k) = k ∷ []
  keys_of x = []

  -- the texts of Words and of a Prefix
  abbrev pub texts_of : Query-F A → List (List ℕ)
  texts_of (node.Words field ws) = ws
  texts_of (node.Prefix field p) = p ∷ []
  texts_of x = []

  -- the ends of a Range
  abbrev pub ends_of : Query-F A → List End
  ends_of (node.Range field a b) = a ∷ b ∷ []
  ends_of x = []

  -- the required, optional and prohibited parts of a Boolean query
  abbrev pub parts_of : Query-F A → List (List A)
  parts_of (node.Bool must should not_) = must ∷ should ∷ not_ ∷ []
  parts_of x = []

-- by kind, then by field, then by contents, given the order of the parts
abbrev pub layer_cmp : {A B : Type 0} → (A → B → Ordering) → Query-F A → Query-F B → Ordering
layer_cmp R x y =
    ordering_then (nat_cmp (kind x) (kind y))
    (ordering_then (nat_cmp (field_of x) (field_of y))
    (ordering_then (slice_cmp key_cmp (keys_of x) (keys_of y))
    (ordering_then (texts_cmp (texts_of x) (texts_of y))
    (ordering_then (slice_cmp end_cmp (ends_of x) (ends_of y))
    (slice_cmp (slice_cmp R) (parts_of x) (parts_of y))))))

-- the order of queries
abbrev pub query_cmp : Query → Query → Ordering
query_cmp = fold-Query (Query → Ordering) (λ layer b. layer_cmp (λ compare. compare) layer (out-Query b))

-- the order of lists of queries: that of the first ones that differ, else the shorter one first
abbrev pub queries_cmp : List Query → List Query → Ordering
queries_cmp = slice_cmp query_cmp

-- ---- equality

-- sorts that the order does not tell apart
abbrev pub sort_eq : List SortKey → List SortKey → Bool
sort_eq a b = is_eq (sort_cmp a b)

-- queries that the order does not tell apart
abbrev pub query_eq : Query → Query → Bool
query_eq a b = is_eq (query_cmp a b)

-- lists of queries that the order does not tell apart
abbrev pub queries_eq : List Query → List Query → Bool
queries_eq a b = is_eq (queries_cmp a b)
