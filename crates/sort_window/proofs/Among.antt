-- The documents of a set, among those of a view.
use Rattle.std.proofs.Common.{◌≡◌, ℕ, suc, ◌≤◌, Bool, true, false, ◌&&◌, ◌||◌, cond, List, [], ◌∷◌, ◌++◌, length, map, filter, find, take, reverse, min, nat_eq, refl, sym, ap, subst, ◌∙◌, arith, Some, IsSome, inl, inr}
use Rattle.std.specs.Option.{option_map, option_and_then, unwrap_or}
use Rattle.std.specs.Prelude.{Option, None}
use Rattle.std.specs.Ordering.{nat_cmp, is_lt, ordering_then, ordering_reverse}
use Rattle.std.specs.declared.cmp.Ordering.TheVariants.{Less, Equal, Greater}
use Rattle.std.specs.FinSet.{contains, from_list, contains-from_list_nat}
use Rattle.std.specs.List.{AllByRecursion}
use Rattle.std.proofs.lemmas.Bool.{ne_eqb, eq-eqb, le-ltb, cases_lt}
use Rattle.std.proofs.lemmas.List.{length-map, take-map, take_all, length-reverse, map-append}
use Rattle.std.proofs.lemmas.Grind.{reverse_onto}
use mathlib.Core.Bool.{true≢false}
use Rattle.doc_model.specs.Document.{Document}
use Rattle.doc_sets.specs.Sets.{Numbers, Rises, is_in, members, IsListing}
use Rattle.doc_sets.specs.declared.TheConstants.{MAX_DOCS}
use Rattle.doc_sets.proofs.Members.{ascending-members}
use Rattle.doc_sets.proofs.Rising.{Rises-higher, Rises-filter, is_in-filter, same_rising}
use Rattle.query_tree.specs.declared.sort.SortBy.TheVariants.{Field, DocId}
use Rattle.query_tree.specs.declared.sort.SortBy.{SortBy}
use Rattle.query_tree.specs.declared.sort.SortKey.{SortKey}
use Rattle.segment_postings.specs.Numbered.{Numbered, numbers, doc_at, sort_value, IsNumbered}
use Rattle.sort_order.specs.Order.{Entry, comes_before, by_cmp, turned, doc_cmp, sorted, in_order}
use Rattle.sort_order.proofs.Placing.{NoneBefore, Rising, Falling, sorted-rising, sorted-falling}
use Rattle.sort_window.specs.First.{AreLive, among, first_numbers}
use Rattle.sort_window.specs.declared.mark.Held.{Held}
use Rattle.sort_window.specs.declared.mark.Held.TheVariants.{Value}
use Rattle.sort_window.proofs.Orders.{first-standings}
use Rattle.sort_order.proofs.Placing.{sorted-same}
use Rattle.std.proofs.lemmas.List.Sorted.{length_permutation}
use Rattle.sort_window.specs.Marks.{index_by, index_first, stands_before, turned_mark, held_of, held_at, mark_of, mark_at, standing, standing_at}

-- ---- the numbers of a set are those of its documents

filter-map : (p : ℕ → Bool) (es : List Entry) → map (λ e. e.0) (filter (λ e. p e.0) es) ≡ filter p (map (λ e. e.0) es)
filter-map p [] = refl
filter-map p (e ∷ es) =
    elim (p e.0) as (λ b. map (λ e. e.0) (cond b (e ∷ filter (λ e. p e.0) es) (filter (λ e. p e.0) es)) ≡ cond b (e.0 ∷ filter p (map (λ e. e.0) es)) (filter p (map (λ e. e.0) es))) [
      | true ↦ ap (λ ns. e.0 ∷ ns) (filter-map p es)
      | false ↦ filter-map p es
    ]

found_in : (es : List Entry) (n : ℕ) → IsSome (option_map (λ (e : Entry). e.1) (find (λ e. nat_eq e.0 n) es)) → is_in (map (λ e. e.0) es) n ≡ true
found_in [] n h = absurd (true≢false (sym h))
found_in (e ∷ es) n h =
    (elim (nat_eq e.0 n) as (λ b. IsSome (option_map (λ (e : Entry). e.1) (cond b (Some e) (find (λ e. nat_eq e.0 n) es))) → (b || is_in (map (λ e. e.0) es) n) ≡ true) [
      | true ↦ λ k. refl
      | false ↦ λ k. found_in es n k
    ]) h

live_in : (es : List Entry) (n : ℕ) → is_in (map (λ e. e.0) es) n ≡ true → IsSome (option_map (λ (e : Entry). e.1) (find (λ e. nat_eq e.0 n) es))
live_in [] n h = absurd (true≢false (sym h))
live_in (e ∷ es) n h =
    (elim (nat_eq e.0 n) as (λ b. (b || is_in (map (λ e. e.0) es) n) ≡ true → IsSome (option_map (λ (e : Entry). e.1) (cond b (Some e) (find (λ e. nat_eq e.0 n) es)))) [
      | true ↦ λ k. refl
      | false ↦ λ k. live_in es n k
    ]) h

-- the set of a view's numbers, and each within it, has live ones alone
pub within_live : (live set : Numbers) (v : Numbered) → live ≡ from_list (numbers v) → ((n : ℕ) → contains set n ≡ true → contains live n ≡ true) → AreLive set v
within_live live set v is within n h =
    live_in v.list n (sym (ap (λ s. contains s n) is ∙ contains-from_list_nat (numbers v) n) ∙ within n h)

both_or_none : (a b : Bool) → (b ≡ true → a ≡ true) → (a && b) ≡ b
both_or_none true b h = refl
both_or_none false true h = h refl
both_or_none false false h = refl

pub members_among : (set : Numbers) (v : Numbered) → IsNumbered v → AreLive set v → IsListing set (members set) → members set ≡ map (λ e. e.0) (among set v)
members_among set v is live listing =
    let high : Rises 0 MAX_DOCS (numbers v) = Rises-higher 0 v.size MAX_DOCS (numbers v) is.most is.rising in
    same_rising 0 MAX_DOCS (members set) (filter (contains set) (numbers v)) (ascending-members set)
    (Rises-filter (contains set) 0 MAX_DOCS (numbers v) high)
    (λ n. listing.same n
    ∙ sym (is_in-filter (contains set) (numbers v) n ∙ both_or_none (is_in (numbers v) n) (contains set n) (λ h. found_in v.list n (live n h))))
    ∙ sym (filter-map (contains set) v.list)

pub length-among : (set : Numbers) (v : Numbered) → IsNumbered v → AreLive set v → IsListing set (members set) → length (among set v) ≡ length (members set)
length-among set v is live listing = sym (ap length (members_among set v is live listing) ∙ length-map (among set v) (λ e. e.0))

-- ---- each document stands at its own number

above : (low high : ℕ) (es : List Entry) → Rises low high (map (λ e. e.0) es) → AllByRecursion (λ e. low ≤ e.0) es
above low high [] r = tt
above low high (e ∷ es) r = (r.0, weaker es (above (suc e.0) high es r.2))
  where
    weaker : (fs : List Entry) → AllByRecursion (λ f. suc e.0 ≤ f.0) fs → AllByRecursion (λ f. low ≤ f.0) fs
    weaker [] h = tt
    weaker (f ∷ fs) h = (omega (arith, r.0, h.0), weaker fs h.1)

others : (e : Entry) (es fs : List Entry) → AllByRecursion (λ f. suc e.0 ≤ f.0) fs → AllByRecursion (λ f. find (λ g. nat_eq g.0 f.0) es ≡ Some f) fs
    → AllByRecursion (λ f. find (λ g. nat_eq g.0 f.0) (e ∷ es) ≡ Some f) fs
others e es [] low h = tt
others e es (f ∷ fs) low h = (
  ap (λ b. cond b (Some e) (find (λ g. nat_eq g.0 f.0) es)) (ne_eqb e.0 f.0 (λ same. omega (arith, same, low.0))) ∙ h.0,
  others e es fs low.1 h.1,
)

own_at : (low high : ℕ) (es : List Entry) → Rises low high (map (λ e. e.0) es) → AllByRecursion (λ e. find (λ f. nat_eq f.0 e.0) es ≡ Some e) es
own_at low high [] r = tt
own_at low high (e ∷ es) r = (
  ap (λ b. cond b (Some e) (find (λ g. nat_eq g.0 e.0) es)) (eq-eqb e.0 e.0 refl),
  others e es es (above (suc e.0) high es r.2) (own_at (suc e.0) high es r.2),
)

-- ---- what is read of a number is what the document has

helds_are : (v : Numbered) (e : Entry) (by : SortBy) → doc_at v e.0 ≡ Some e.1 → held_at v by e.0 ≡ held_of by e
helds_are v e (Field field) at = ap (λ d. held_by d) at
  where
    held_by : Option Document → Held
    held_by d = Value (option_and_then (λ x. sort_value x field) d)
helds_are v e DocId at = refl

marks_are : (v : Numbered) (e : Entry) (keys : List SortKey) → doc_at v e.0 ≡ Some e.1 → map (mark_at v e.0) keys ≡ map (mark_of e) keys
marks_are v e [] at = refl
marks_are v e (key ∷ keys) at = λ i. turned_mark key.down (helds_are v e key.by at i) ∷ marks_are v e keys at i

standings_of : (v : Numbered) (keys : List SortKey) (es : List Entry) → AllByRecursion (λ e. find (λ f. nat_eq f.0 e.0) v.list ≡ Some e) es
    → map (standing_at v keys) (map (λ e. e.0) es) ≡ map (standing keys) es
standings_of v keys [] h = refl
standings_of v keys (e ∷ es) h =
    λ i. (marks_are v e keys (ap (option_map (λ f. f.1)) h.0) i, e.0) ∷ standings_of v keys es h.1 i

all_filtered : (P : Entry → Type 0) (p : Entry → Bool) (es : List Entry) → AllByRecursion P es → AllByRecursion P (filter p es)
all_filtered P p [] h = tt
all_filtered P p (e ∷ es) h =
    elim (p e) as (λ b. AllByRecursion P (cond b (e ∷ filter p es) (filter p es))) [
      | true ↦ (h.0, all_filtered P p es h.1)
      | false ↦ all_filtered P p es h.1
    ]

pub standings_among : (set : Numbers) (v : Numbered) (keys : List SortKey) → IsNumbered v → AreLive set v → IsListing set (members set)
    → map (standing_at v keys) (members set) ≡ map (standing keys) (among set v)
standings_among set v keys is live listing =
    ap (map (standing_at v keys)) (members_among set v is live listing)
    ∙ standings_of v keys (among set v) (all_filtered (λ e. find (λ f. nat_eq f.0 e.0) v.list ≡ Some e) (λ e. contains set e.0) v.list (own_at 0 v.size v.list is.rising))

-- ---- index order

later : (m n : ℕ) → suc m ≤ n → nat_cmp n m ≡ Greater
later m n h = λ i. cond (le-ltb n m (omega (arith, h)) i) Less (cond (ne_eqb n m (λ e. omega (arith, h, e)) i) Equal Greater)

abbrev Later : Entry → Entry → Type 0
Later e f = nat_cmp f.0 e.0 ≡ Greater

rises : (low high : ℕ) (es : List Entry) → Rises low high (map (λ e. e.0) es) → (lt : Entry → Entry → Bool) → ((e f : Entry) → Later e f → lt f e ≡ false) → Rising lt es
rises low high [] r lt h = tt
rises low high (e ∷ es) r lt h = (all es (above (suc e.0) high es r.2), rises (suc e.0) high es r.2 lt h)
  where
    all : (fs : List Entry) → AllByRecursion (λ f. suc e.0 ≤ f.0) fs → NoneBefore lt e fs
    all [] low = tt
    all (f ∷ fs) low = (h e f (later e.0 f.0 low.0), all fs low.1)

falls : (low high : ℕ) (es : List Entry) → Rises low high (map (λ e. e.0) es) → (lt : Entry → Entry → Bool) → ((e f : Entry) → Later e f → lt f e ≡ true) → Falling lt es
falls low high [] r lt h = tt
falls low high (e ∷ es) r lt h = (all es (above (suc e.0) high es r.2), falls (suc e.0) high es r.2 lt h)
  where
    all : (fs : List Entry) → AllByRecursion (λ f. suc e.0 ≤ f.0) fs → AllByRecursion (λ f. lt f e ≡ true) fs
    all [] low = tt
    all (f ∷ fs) low = (h e f (later e.0 f.0 low.0), all fs low.1)

not_none : {A : Type 0} {a : A} → None ≡ Some a → ⊥
not_none {A} h = subst is_none h tt
  where
    is_none : Option A → Type 0
    is_none None = Unit {0}
    is_none (Some a) = ⊥

map-reverse : {A B : Type 0} (f : A → B) (xs : List A) → map f (reverse xs) ≡ reverse (map f xs)
map-reverse f [] = refl
map-reverse f (x ∷ xs) =
    ap (map f) (reverse_onto xs x []) ∙ map-append f (reverse xs) (x ∷ []) ∙ ap (λ ys. ys ++ f x ∷ []) (map-reverse f xs)
    ∙ sym (reverse_onto (map f xs) (f x) [])

module _ (set : Numbers) (v : Numbered) (is : IsNumbered v) (live : AreLive set v) (listing : IsListing set (members set)) where
  among_rises : Rises 0 v.size (map (λ e. e.0) (among set v))
  among_rises = subst (Rises 0 v.size) (sym (filter-map (contains set) v.list)) (Rises-filter (contains set) 0 v.size (numbers v) is.rising)

  take_min : {X : Type 0} (n most : ℕ) (xs : List X) → length xs ≡ length (members set) → most ≡ min n (length (members set)) → take most xs ≡ take n xs
  take_min n most xs size e = elim (cases_lt n (length xs)) [
    | inl h ↦ ap (λ k. take k xs) (omega (arith, e, size, h))
    | inr h ↦ take_all most xs (omega (arith, e, size, h)) ∙ sym (take_all n xs h)
  ]

  unsorted : (n most : ℕ) (keys : List SortKey) → most ≡ min n (length (members set)) → in_order keys (among set v) ≡ among set v → take most (members set) ≡ first_numbers n keys set v
  unsorted n most keys e same =
      take_min n most (members set) refl e
      ∙ ap (take n) (members_among set v is live listing) ∙ take-map (λ e. e.0) n (among set v)
      ∙ ap (λ es. map (λ e. e.0) (take n es)) (sym same)

  rising_at : (keys : List SortKey) → ((e f : Entry) → Later e f → comes_before keys f e ≡ false) → in_order keys (among set v) ≡ among set v
  rising_at keys h = sorted-rising (comes_before keys) (among set v) (rises 0 v.size (among set v) among_rises (comes_before keys) h)

  falling_at : (keys : List SortKey) → ((e f : Entry) → Later e f → comes_before keys f e ≡ true) → in_order keys (among set v) ≡ reverse (among set v)
  falling_at keys h = sorted-falling (comes_before keys) (among set v) (falls 0 v.size (among set v) among_rises (comes_before keys) h)

  told : (a b : Bool) → Some a ≡ Some b → a ≡ b
  told a b h = ap (λ o. unwrap_or o false) h

  rising_by : (key : SortKey) (keys : List SortKey) → index_by key.by key.down ≡ Some false → (e f : Entry) → Later e f → comes_before (key ∷ keys) f e ≡ false
  rising_by key keys is_up e f h = by_kind key.by key.down is_up
    where
      by_kind : (by : SortBy) (down : Bool) → index_by by down ≡ Some false → is_lt (ordering_then (turned down (by_cmp by f e)) (doc_cmp keys f e)) ≡ false
      by_kind (Field field) down up = absurd (not_none up)
      by_kind DocId down up =
          ap (λ d. is_lt (ordering_then (turned d (nat_cmp f.0 e.0)) (doc_cmp keys f e))) (told down false up)
          ∙ ap (λ r. is_lt (ordering_then r (doc_cmp keys f e))) h

  falling_by : (key : SortKey) (keys : List SortKey) → index_by key.by key.down ≡ Some true → (e f : Entry) → Later e f → comes_before (key ∷ keys) f e ≡ true
  falling_by key keys is_down e f h = by_kind key.by key.down is_down
    where
      by_kind : (by : SortBy) (down : Bool) → index_by by down ≡ Some true → is_lt (ordering_then (turned down (by_cmp by f e)) (doc_cmp keys f e)) ≡ true
      by_kind (Field field) down up = absurd (not_none up)
      by_kind DocId down up =
          ap (λ d. is_lt (ordering_then (turned d (nat_cmp f.0 e.0)) (doc_cmp keys f e))) (told down true up)
          ∙ ap (λ r. is_lt (ordering_then (ordering_reverse r) (doc_cmp keys f e))) h

  pub by_index : (n most : ℕ) (keys : List SortKey) → most ≡ min n (length (members set)) → index_first keys ≡ Some false → take most (members set) ≡ first_numbers n keys set v
  by_index n most [] e up = unsorted n most [] e (rising_at [] (λ a b h. ap is_lt h))
  by_index n most (key ∷ keys) e up = unsorted n most (key ∷ keys) e (rising_at (key ∷ keys) (rising_by key keys up))

  pub by_index_down : (n most : ℕ) (keys : List SortKey) → most ≡ min n (length (members set)) → index_first keys ≡ Some true → take most (reverse (members set)) ≡ first_numbers n keys set v
  by_index_down n most [] e down = absurd (true≢false (sym (told false true down)))
  by_index_down n most (key ∷ keys) e down =
      take_min n most (reverse (members set)) (length-reverse (members set)) e
      ∙ ap (λ ns. take n (reverse ns)) (members_among set v is live listing)
      ∙ ap (take n) (sym (map-reverse (λ e. e.0) (among set v)))
      ∙ take-map (λ e. e.0) n (reverse (among set v))
      ∙ ap (λ es. map (λ e. e.0) (take n es)) (sym (falling_at (key ∷ keys) (falling_by key keys down)))

  pub by_values : (n most : ℕ) (keys : List SortKey) → most ≡ min n (length (members set))
      → map (λ s. s.1) (take most (sorted stands_before (map (standing_at v keys) (members set)))) ≡ first_numbers n keys set v
  by_values n most keys e =
      ap (λ ss. map (λ s. s.1) (take most (sorted stands_before ss))) (standings_among set v keys is live listing)
      ∙ first-standings most keys (among set v)
      ∙ ap (map (λ e. e.0)) (take_min n most (in_order keys (among set v))
      (length_permutation (among set v) (in_order keys (among set v)) (sorted-same (comes_before keys) (among set v)) ∙ length-among set v is live listing) e)
