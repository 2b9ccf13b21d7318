-- The order of keys, and what a binary search by it finds.
use Rattle.std.proofs.Common.{◌≡◌, ℕ, zero, suc, ◌<◌, ◌≤◌, Bool, true, false, cond, not, ◌&&◌, List, [], ◌∷◌, length, get_or, take, drop, filter, refl, sym, ap, ◌∙◌, arith, ltb}
use Rattle.std.specs.List.Sorted.{IsSortedByKey, IsPartitionedBy, IsPartitionPoint}
use Rattle.std.specs.Ordering.{is_lt, is_eq, ordering_reverse, ordering_index}
use Rattle.std.specs.declared.cmp.Ordering.{Ordering}
use Rattle.std.specs.declared.cmp.Ordering.TheVariants.{Less, Equal, Greater}
use Rattle.std.proofs.lemmas.List.Sorted.{searchable_from_sorted, IsPartitionedBy-ltb}
use Rattle.field_schema.specs.declared.key.Key.{Key}
use Rattle.field_schema.specs.Keys.{key_eq, key_cmp}
use Rattle.field_schema.specs.Laws.{key_cmp_total, key_cmp_ties}

pub turned : (x y : Key) → key_cmp x y ≡ ordering_reverse (key_cmp y x)
turned = key_cmp_total.antisymm

tied : (r : Ordering) → (not (is_lt r) && not (is_lt (ordering_reverse r))) ≡ is_eq r
tied Less = refl
tied Equal = refl
tied Greater = refl

-- keys of which neither stands before the other are equal
pub ties_are_equal : (k x : Key) → (not (is_lt (key_cmp k x)) && not (is_lt (key_cmp x k))) ≡ key_eq k x
ties_are_equal k x = ap (λ r. not (is_lt (key_cmp k x)) && not (is_lt r)) (turned x k) ∙ tied (key_cmp k x) ∙ sym (key_cmp_ties k x)

lt_index : (r : Ordering) → ltb (ordering_index r) 1 ≡ is_lt r
lt_index Less = refl
lt_index Equal = refl
lt_index Greater = refl

module _ {X : Type 0} (key : X → Key) (xs : List X) (k : Key) (sorted : IsSortedByKey key key_cmp xs) where
  -- those before k stand first
  pub parted_before : IsPartitionedBy (λ x. is_lt (key_cmp (key x) k)) xs
  parted_before i j d i≤j j<n before =
      sym (lt_index _) ∙ IsPartitionedBy-ltb (λ y. ordering_index (key_cmp (key y) k)) xs 1 (searchable_from_sorted key_cmp_total key xs k sorted) i j d i≤j j<n (lt_index _ ∙ before)

module _ {X : Type 0} (p : X → Bool) where
  none_passes : (xs : List X) → ((i : ℕ) (d : X) → i < length xs → p (get_or xs i d) ≡ false) → filter p xs ≡ []
  none_passes [] h = refl
  none_passes (x ∷ xs) h =
      ap (λ b. cond b (x ∷ filter p xs) (filter p xs)) (h 0 x (omega arith)) ∙ none_passes xs (λ i d l. h (suc i) d (omega arith))

  all_pass : (xs : List X) → ((i : ℕ) (d : X) → i < length xs → p (get_or xs i d) ≡ true) → filter p xs ≡ xs
  all_pass [] h = refl
  all_pass (x ∷ xs) h =
      ap (λ b. cond b (x ∷ filter p xs) (filter p xs)) (h 0 x (omega arith)) ∙ ap (λ ys. x ∷ ys) (all_pass xs (λ i d l. h (suc i) d (omega arith)))

  -- what stands before the point passes, and what stands from it on does not
  pub taken : (xs : List X) (i : ℕ) → ((k : ℕ) (d : X) → k < i → k < length xs → p (get_or xs k d) ≡ true) → ((k : ℕ) (d : X) → i ≤ k → k < length xs → p (get_or xs k d) ≡ false) → filter p xs ≡ take i xs
  taken [] zero passes fails = refl
  taken [] (suc i) passes fails = refl
  taken (x ∷ xs) zero passes fails = none_passes (x ∷ xs) (λ k d l. fails k d (omega arith) l)
  taken (x ∷ xs) (suc i) passes fails =
      ap (λ b. cond b (x ∷ filter p xs) (filter p xs)) (passes 0 x (omega arith) (omega arith))
      ∙ ap (λ ys. x ∷ ys) (taken xs i (λ k d l m. passes (suc k) d (omega arith) (omega arith)) (λ k d l m. fails (suc k) d (omega arith) (omega arith)))

  pub dropped : (xs : List X) (i : ℕ) → ((k : ℕ) (d : X) → k < i → k < length xs → p (get_or xs k d) ≡ false) → ((k : ℕ) (d : X) → i ≤ k → k < length xs → p (get_or xs k d) ≡ true) → filter p xs ≡ drop i xs
  dropped [] zero fails passes = refl
  dropped [] (suc i) fails passes = refl
  dropped (x ∷ xs) zero fails passes = all_pass (x ∷ xs) (λ k d l. passes k d (omega arith) l)
  dropped (x ∷ xs) (suc i) fails passes =
      ap (λ b. cond b (x ∷ filter p xs) (filter p xs)) (fails 0 x (omega arith) (omega arith))
      ∙ dropped xs i (λ k d l m. fails (suc k) d (omega arith) (omega arith)) (λ k d l m. passes (suc k) d (omega arith) (omega arith))

-- the elements before a point that a test is true up to
pub front : {X : Type 0} (p : X → Bool) (xs : List X) (i : ℕ) → IsPartitionPoint (λ y. p y ≡ true) (λ y. p y ≡ false) xs i → take i xs ≡ filter p xs
front p xs i h = sym (taken p xs i (λ k d l m. h.0 k d (omega arith) l) (λ k d l m. h.1 k d l m))

-- and those behind it
pub back : {X : Type 0} (p : X → Bool) (xs : List X) (i : ℕ) → IsPartitionPoint (λ y. p y ≡ true) (λ y. p y ≡ false) xs i → drop i xs ≡ filter (λ x. not (p x)) xs
back p xs i h = sym (dropped (λ x. not (p x)) xs i (λ k d l m. ap not (h.0 k d (omega arith) l)) (λ k d l m. ap not (h.1 k d l m)))

-- the same elements pass two tests that agree
pub filter_alike : {X : Type 0} (p q : X → Bool) → ((x : X) → p x ≡ q x) → (xs : List X) → filter p xs ≡ filter q xs
filter_alike p q same [] = refl
filter_alike p q same (x ∷ xs) = (λ i. cond (same x i) (x ∷ filter_alike p q same xs i) (filter_alike p q same xs i))

-- both tests in turn
pub filter_twice : {X : Type 0} (p q : X → Bool) (xs : List X) → filter q (filter p xs) ≡ filter (λ x. p x && q x) xs
filter_twice p q [] = refl
filter_twice p q (x ∷ xs) =
    elim (p x) as (λ b. filter q (cond b (x ∷ filter p xs) (filter p xs)) ≡ cond (b && q x) (x ∷ filter (λ y. p y && q y) xs) (filter (λ y. p y && q y) xs)) [
      | true ↦ ap (λ ys. cond (q x) (x ∷ ys) ys) (filter_twice p q xs)
      | false ↦ filter_twice p q xs
    ]
