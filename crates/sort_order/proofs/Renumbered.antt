-- Documents in order, by whatever numbers that ascend.
use Rattle.std.proofs.Common.{◌≡◌, ℕ, ◌+◌, ◌<◌, Bool, List, [], ◌∷◌, ◌++◌, length, get_or, map, refl, sym, ap, ◌∙◌, arith, inl, inr}
use Rattle.std.specs.List.{AllByRecursion, enumerate_from}
use Rattle.std.specs.List.Sorted.{IsStrictlySortedBy}
use Rattle.std.specs.Ordering.{nat_cmp, is_lt, ordering_then}
use Rattle.std.specs.Cmp.{nat_cmp_is}
use Rattle.std.specs.declared.cmp.Ordering.TheVariants.{Less, Equal, Greater}
use Rattle.std.proofs.Math.Seq.{get_or-append_seam}
use Rattle.std.proofs.lemmas.Bool.{cases_lt}
use Rattle.std.proofs.lemmas.List.{append_assoc, length-append}
use Rattle.std.proofs.lemmas.Map.Keys.{below_from_sorted}
use Rattle.doc_model.specs.Document.{Document}
use Rattle.query_tree.specs.declared.sort.SortBy.{SortBy}
use Rattle.query_tree.specs.declared.sort.SortBy.TheVariants.{Field, DocId}
use Rattle.query_tree.specs.declared.sort.SortKey.{SortKey}
use Rattle.sort_order.specs.Order.{Entry, by_cmp, turned, doc_cmp, comes_before, sorted}
use Rattle.sort_order.specs.Laws.{numbers, documents, OrderOfNumbersCounts}
use Rattle.sort_order.proofs.Placing.{map-sorted, sorted-agrees}

-- ---- documents, each with its number and its place

abbrev Placed : Type 0
Placed = ℕ × ℕ × Document

abbrev by_number : Placed → Entry
by_number p = (p.0, p.2)

abbrev by_place : Placed → Entry
by_place p = (p.1, p.2)

abbrev placed_from : ℕ → List Entry → List Placed
placed_from k [] = []
placed_from k (e ∷ es) = (e.0, k, e.1) ∷ placed_from (k + 1) es

numbers_stay : (k : ℕ) (es : List Entry) → map by_number (placed_from k es) ≡ es
numbers_stay k [] = refl
numbers_stay k (e ∷ es) = ap (λ fs. e ∷ fs) (numbers_stay (k + 1) es)

places_stand : (k : ℕ) (es : List Entry) → map by_place (placed_from k es) ≡ enumerate_from k (documents es)
places_stand k [] = refl
places_stand k (e ∷ es) = ap (λ fs. (k, e.1) ∷ fs) (places_stand (k + 1) es)

-- of these numbers its own stands at its place
record IsAt (ns : List ℕ) (p : Placed) : Type 0 where
  within : p.1 < length ns
  number : get_or ns p.1 0 ≡ p.0

all_at : (ns front : List ℕ) (k : ℕ) (es : List Entry) → ns ≡ front ++ numbers es → k ≡ length front → AllByRecursion (IsAt ns) (placed_from k es)
all_at ns front k [] all at = tt
all_at ns front k (e ∷ es) all at = (
  record {
    within = let a = ap length all in let b = length-append front (e.0 ∷ numbers es) in omega arith;
    number = (λ i. get_or (all i) (at i) 0) ∙ get_or-append_seam front e.0 (numbers es) 0;
  },
  all_at ns (front ++ e.0 ∷ []) (k + 1) es (all ∙ sym (append_assoc front (e.0 ∷ []) (numbers es)))
      (let a = length-append front (e.0 ∷ []) in omega (arith, at)),
)

-- ---- by number and by place they stand alike

places_for_numbers : (ns : List ℕ) → IsStrictlySortedBy nat_cmp ns → (i j : ℕ) → i < length ns → j < length ns
    → nat_cmp (get_or ns i 0) (get_or ns j 0) ≡ nat_cmp i j
places_for_numbers ns up i j hi hj = elim (cases_lt i j) [
  | inl l ↦ sym (nat_cmp_is (get_or ns i 0) (get_or ns j 0) Less (below_from_sorted ns i j 0 up l hj)) ∙ nat_cmp_is i j Less l
  | inr g ↦ elim (cases_lt j i) [
    | inl l ↦ sym (nat_cmp_is (get_or ns i 0) (get_or ns j 0) Greater (below_from_sorted ns j i 0 up l hi)) ∙ nat_cmp_is i j Greater l
    | inr h ↦
        let same : i ≡ j = omega (arith, g, h) in
        sym (nat_cmp_is (get_or ns i 0) (get_or ns j 0) Equal (ap (λ k. get_or ns k 0) same)) ∙ nat_cmp_is i j Equal same
  ]
]

module _ (ns : List ℕ) (up : IsStrictlySortedBy nat_cmp ns) (p q : Placed) (a : IsAt ns p) (b : IsAt ns q) where
  numbers_alike : nat_cmp p.0 q.0 ≡ nat_cmp p.1 q.1
  numbers_alike = (λ i. nat_cmp (sym a.number i) (sym b.number i)) ∙ places_for_numbers ns up p.1 q.1 a.within b.within

  keys_alike : (by : SortBy) → by_cmp by (by_number p) (by_number q) ≡ by_cmp by (by_place p) (by_place q)
  keys_alike (Field field) = refl
  keys_alike DocId = numbers_alike

  alike : (sort : List SortKey) → doc_cmp sort (by_number p) (by_number q) ≡ doc_cmp sort (by_place p) (by_place q)
  alike [] = numbers_alike
  alike (key ∷ keys) = λ i. ordering_then (turned key.down (keys_alike key.by i)) (alike keys i)

same_documents : (ps : List Placed) → documents (map by_number ps) ≡ documents (map by_place ps)
same_documents [] = refl
same_documents (p ∷ ps) = ap (λ ds. p.2 ∷ ds) (same_documents ps)

pub order_of_numbers_counts : OrderOfNumbersCounts
order_of_numbers_counts sort docs up =
    let lt : Entry → Entry → Bool = comes_before sort in
    let ns : List ℕ = numbers docs in
    let ps : List Placed = placed_from 0 docs in
    let first : Placed → Placed → Bool = λ p q. lt (by_number p) (by_number q) in
    let second : Placed → Placed → Bool = λ p q. lt (by_place p) (by_place q) in
    let same : sorted first ps ≡ sorted second ps =
    sorted-agrees first second (IsAt ns) (λ p q a b. ap is_lt (alike ns up p q a b sort)) ps (all_at ns [] 0 docs refl refl) in
    ap (λ es. documents (sorted lt es)) (sym (numbers_stay 0 docs))
    ∙ ap documents (sym (map-sorted by_number lt ps))
    ∙ same_documents (sorted first ps)
    ∙ ap (λ qs. documents (map by_place qs)) same
    ∙ ap documents (map-sorted by_place lt ps)
    ∙ ap (λ es. documents (sorted lt es)) (places_stand 0 docs)
