-- For private clauses alone: filters kept one after another, with the set of their queries.
use Rattle.std.specs.Prelude.{◌≡◌, List, [], ◌∷◌, ◌++◌, Bool, if◌then◌else◌}
use Rattle.std.specs.BTreeSet.{BTreeSet, contains}
use Rattle.std.specs.List.{list_any}
use Rattle.query_tree.specs.declared.query.Query.{Query}
use Rattle.query_tree.specs.Order.{query_cmp, query_eq}
use Rattle.request_form.specs.declared.request.Filter.{Filter}

-- one of the filters has this query
abbrev pub has_query : List Filter → Query → Bool
has_query fs q = list_any (λ f. query_eq f.query q) fs

-- a filter behind the others, where none has its query
abbrev pub with_filter : List Filter → Filter → List Filter
with_filter fs f = if has_query fs f.query then fs else fs ++ f ∷ []

-- the set has the filters' queries and no other
abbrev pub Knows : BTreeSet Query → List Filter → Type 0
Knows s fs = (q : Query) → contains query_cmp s q ≡ has_query fs q
