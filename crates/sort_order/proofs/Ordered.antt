-- The laws of the order.
use Rattle.std.proofs.Common.{◌≡◌, ◌≢◌, ℕ, true, false, ◌||◌, List, [], ◌∷◌, refl, sym, ap, ◌∙◌, nat_eq}
use Rattle.std.specs.Ordering.{nat_cmp, is_lt, ordering_reverse}
use Rattle.std.specs.declared.cmp.Ordering.{Ordering}
use Rattle.std.specs.declared.cmp.Ordering.TheVariants.{Less, Equal, Greater}
use Rattle.std.specs.Cmp.{IsStrictWeakOrder, tied_itself, nat_eq_equiv}
use Rattle.std.specs.List.{AllByRecursion, IsDistinct}
use Rattle.std.specs.List.Sorted.{IsStrictlySortedBy}
use mathlib.Core.Bool.{true≢false}
use Rattle.std.proofs.lemmas.Bool.{eq-eqb}
use Rattle.std.proofs.lemmas.Map.Keys.{IsDistinct-IsPermutation}
use Rattle.std.proofs.lemmas.List.Sorted.{ranks_by, IsPermutation-map}
use Rattle.query_tree.specs.declared.sort.SortKey.{SortKey}
use Rattle.sort_order.specs.Order.{Entry, doc_cmp, comes_before, in_order}
use Rattle.sort_order.specs.Laws.{NoneBeforeItself, BeforeChains, OneComesBefore, KeepsDocuments, Ascends, IndexOrderStays, numbers}
use Rattle.sort_order.proofs.Placing.{NoneBefore, Rising, sorted-same, rising-sorted, sorted-rising}
use Rattle.sort_order.proofs.Standing.{doc_cmp_total, tied_number}

less : (r : Ordering) → is_lt r ≡ true → r ≡ Less
less Less h = refl
less Equal h = absurd (true≢false (sym h))
less Greater h = absurd (true≢false (sym h))

pub before_order : (sort : List SortKey) → IsStrictWeakOrder (comes_before sort)
before_order sort = ranks_by (doc_cmp_total sort) (λ e. e)

pub none_before_itself : NoneBeforeItself
none_before_itself sort a = ap is_lt (tied_itself (doc_cmp_total sort) a)

pub before_chains : BeforeChains
before_chains sort a b c h k =
    ap is_lt ((doc_cmp_total sort).trans a b c (less (doc_cmp sort a b) h) (less (doc_cmp sort b c) k))

one_of : (r : Ordering) → (r ≢ Equal) → (is_lt r || is_lt (ordering_reverse r)) ≡ true
one_of Less h = refl
one_of Equal h = absurd (h refl)
one_of Greater h = refl

pub one_comes_before : OneComesBefore
one_comes_before sort a b other =
    ap (λ r. comes_before sort a b || is_lt r) ((doc_cmp_total sort).antisymm b a)
    ∙ one_of (doc_cmp sort a b) (λ e. other (tied_number sort a b e))

pub keeps_documents : KeepsDocuments
keeps_documents sort docs = sorted-same (comes_before sort) docs

-- ---- each before all that follow

strictly : (r : Ordering) → is_lt (ordering_reverse r) ≡ false → (r ≢ Equal) → r ≡ Less
strictly Less h k = refl
strictly Equal h k = absurd (k refl)
strictly Greater h k = absurd (true≢false h)

other_numbers : (a b : ℕ) → nat_eq a b ≡ false → a ≢ b
other_numbers a b h e = true≢false (sym (eq-eqb a b e) ∙ h)

each_before : (sort : List SortKey) (a : Entry) (es : List Entry) → NoneBefore (comes_before sort) a es
    → AllByRecursion (λ n. nat_eq a.0 n ≡ false) (numbers es) → AllByRecursion (λ b. doc_cmp sort a b ≡ Less) es
each_before sort a [] none other = tt
each_before sort a (b ∷ bs) none other = (
  strictly (doc_cmp sort a b) (ap is_lt (sym ((doc_cmp_total sort).antisymm b a)) ∙ none.0)
      (λ e. other_numbers a.0 b.0 other.0 (tied_number sort a b e)),
  each_before sort a bs none.1 other.1,
)

strictly_rising : (sort : List SortKey) (es : List Entry) → Rising (comes_before sort) es → IsDistinct nat_eq (numbers es) → IsStrictlySortedBy (doc_cmp sort) es
unfolding IsDistinct IsStrictlySortedBy
strictly_rising sort [] up other = tt
strictly_rising sort (a ∷ es) up other = (each_before sort a es up.0 other.0, strictly_rising sort es up.1 other.1)

flips : (m n : ℕ) → nat_eq m n ≡ nat_eq n m
flips m n = nat_eq_equiv.symm m n

pub ascends : Ascends
ascends sort docs other =
    strictly_rising sort (in_order sort docs) (rising-sorted (comes_before sort) (before_order sort) docs)
    (IsDistinct-IsPermutation nat_eq flips (numbers docs) (numbers (in_order sort docs))
    (IsPermutation-map (λ e. e.0) docs (in_order sort docs) (keeps_documents sort docs)) other)

-- ---- by no key

none_before-index : (e : Entry) (es : List Entry) → AllByRecursion (λ n. nat_cmp e.0 n ≡ Less) (numbers es) → NoneBefore (comes_before []) e es
none_before-index e [] h = tt
none_before-index e (f ∷ fs) h = ((before_order []).one_way e f (ap is_lt h.0), none_before-index e fs h.1)

rising-index : (es : List Entry) → IsStrictlySortedBy nat_cmp (numbers es) → Rising (comes_before []) es
unfolding IsStrictlySortedBy
rising-index [] up = tt
rising-index (e ∷ es) up = (none_before-index e es up.0, rising-index es up.1)

pub index_order_stays : IndexOrderStays
index_order_stays docs up = sorted-rising (comes_before []) docs (rising-index docs up)
