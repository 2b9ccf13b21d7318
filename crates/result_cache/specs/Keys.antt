-- Keys of results, their order and what they feed a hasher.
use Rattle.std.specs.Prelude.{◌≡◌, ◌++◌, ◌↔◌, Bool, List, Contains, true}
use Rattle.std.specs.Ordering.{on, then_cmp, ordering_then, is_eq}
use Rattle.std.specs.declared.cmp.Ordering.{Ordering}
use Rattle.std.specs.declared.cmp.Ordering.TheVariants.{Equal}
use Rattle.std.specs.Cmp.{IsTotalOrder, then_total, on_total, Equal-is}
use Rattle.std.specs.Hash.{HashWrites}
use Rattle.std.specs.Hash as fed
use Rattle.query_tree.specs.declared.query.Query.{Query}
use Rattle.query_tree.specs.Order.{query_cmp, queries_cmp, sort_cmp}
use Rattle.query_tree.specs.OrderLaws.{both_Equal, sort_cmp_total, sort_cmp-same}
use Rattle.query_tree.specs.QueryLaws.{query_cmp_total, query_cmp-same, queries_cmp_total, queries_cmp-same}
use Rattle.query_tree.specs.Feed.{query_fed, sort_fed}
use Rattle.result_cache.specs.declared.key.ResultKey.{ResultKey}

-- the key has these filters and no other
abbrev pub HasFilters : ResultKey → List Query → Type 0
HasFilters key filters = (q : Query) → Contains key.filters q ↔ Contains filters q

-- by the query, then by the filters, then by the sort
abbrev pub result_key_cmp : ResultKey → ResultKey → Ordering
result_key_cmp =
    then_cmp (then_cmp (on (λ k. k.q) query_cmp) (on (λ k. k.filters) queries_cmp))
    (on (λ k. k.sort) sort_cmp)

abbrev pub result_key_eq : ResultKey → ResultKey → Bool
result_key_eq a b = is_eq (result_key_cmp a b)

-- the query, then the filters, then the sort
abbrev pub result_key_fed : ResultKey → HashWrites
result_key_fed k = query_fed k.q ++ fed.slice query_fed k.filters ++ sort_fed k.sort

pub result_key_cmp_total : IsTotalOrder result_key_cmp
result_key_cmp_total =
    let by_q = on_total (λ (k : ResultKey). k.q) query_cmp_total in
    let by_filters = on_total (λ (k : ResultKey). k.filters) queries_cmp_total in
    then_total (then_total by_q by_filters) (on_total (λ (k : ResultKey). k.sort) sort_cmp_total)

-- keys that the order does not tell apart are one
pub result_key_cmp-same : (a b : ResultKey) → result_key_cmp a b ≡ Equal → a ≡ b
result_key_cmp-same a b e =
    let by_both = ordering_then (query_cmp a.q b.q) (queries_cmp a.filters b.filters) in
    let outer : (by_both ≡ Equal) × (sort_cmp a.sort b.sort ≡ Equal) = both_Equal _ _ e in
    let inner : (query_cmp a.q b.q ≡ Equal) × (queries_cmp a.filters b.filters ≡ Equal) =
    both_Equal _ _ outer.0 in
    λ i. record {
      q = query_cmp-same a.q b.q inner.0 i;
      filters = queries_cmp-same a.filters b.filters inner.1 i;
      sort = sort_cmp-same a.sort b.sort outer.1 i;
    }

pub result_key_eq-same : (a b : ResultKey) → result_key_eq a b ≡ true → a ≡ b
result_key_eq-same a b e = result_key_cmp-same a b ((Equal-is (result_key_cmp a b)).0 e)
