use Rattle.std.proofs.Common.{◌≡◌, List, Contains, refl, sym, ap, subst, ◌∙◌}
use Rattle.std.specs.List.{dedup}
use Rattle.std.specs.List.Sorted.{IsStrictlySortedBy, IsSorted, IsPermutation}
use Rattle.std.specs.Cmp.{eq_by_cmp_equiv}
use Rattle.std.proofs.lemmas.List.Filters.{dedup_is}
use Rattle.std.proofs.lemmas.List.Kept.{IsStrictlySortedBy-dedup, Contains-dedup, Contains-from_dedup}
use Rattle.std.proofs.lemmas.List.Sorted.{Contains-permutation, IsPermutation-sym}
use Rattle.query_tree.specs.declared.query.Query.{Query}
use Rattle.query_tree.specs.Order.{query_cmp, query_eq}
use Rattle.query_tree.specs.QueryLaws.{query_cmp_total, query_eq-same}
use Rattle.result_cache.proofs.key.ResultKey.make.Goals as goal

sorted_once : (xs ys : List Query) → ys ≡ dedup query_eq xs → IsSorted query_cmp xs → IsStrictlySortedBy query_cmp ys
sorted_once xs ys is sorted = subst (IsStrictlySortedBy query_cmp) (sym is) (IsStrictlySortedBy-dedup query_cmp_total (λ x y. refl) xs sorted)

-- what is kept once of a list in another order has its elements
same_members : (fs xs ys : List Query) (q : Query) → IsPermutation fs xs → ys ≡ dedup query_eq xs → (Contains ys q → Contains fs q) × (Contains fs q → Contains ys q)
same_members fs xs ys q moved is = (
  λ h. Contains-permutation xs fs q (IsPermutation-sym fs xs moved) (Contains-from_dedup query_eq xs q (subst (λ zs. Contains zs q) is h)),
  λ h. subst (λ zs. Contains zs q) (sym is) (Contains-dedup (eq_by_cmp_equiv query_cmp_total) query_eq-same xs q (Contains-permutation fs xs q moved h)),
)

pub returns-clause-ascending : goal.returns-clause-ascending
returns-clause-ascending c =
    let xs : List Query = c.sort_unstable.new.self.items in
    let once : c.from_vec.result ≡ dedup query_eq xs = c.from_vec.ensures ∙ dedup_is query_eq xs c.dedup.new.self.items c.dedup.ensures.filtered in
    sorted_once xs c.from_vec.result once c.sort_unstable.ensures.sorted

pub returns-clause-filters : goal.returns-clause-filters
returns-clause-filters c q =
    let xs : List Query = c.sort_unstable.new.self.items in
    let once : c.from_vec.result ≡ dedup query_eq xs = c.from_vec.ensures ∙ dedup_is query_eq xs c.dedup.new.self.items c.dedup.ensures.filtered in
    let copied : c.in_ok-sorted.sorted.items ≡ c.args.filters.now = c.in_ok-sorted.ensures ∙ c.as_slice.ensures in
    same_members c.args.filters.now xs c.from_vec.result q (subst (λ fs. IsPermutation fs xs) copied c.sort_unstable.ensures.permutation) once
