-- A list whose keys rise is the only order of its elements by key.
use Rattle.std.proofs.Common.{◌≡◌, ℕ, zero, suc, ◌+◌, ◌<◌, ◌≤◌, List, [], ◌∷◌, length, Bool, true, false, cond, get_or, refl, sym, ap, ap₂, subst, ◌∙◌, arith, ◌⊎◌, inl, inr, map}
use Rattle.std.specs.Prelude.{◌==◌}
use Rattle.std.specs.List.{AllByRecursion, swap}
use Rattle.std.specs.List.{Contains, sum_by}
use Rattle.std.specs.List.Sorted.{IsPermutation, IsNonDecreasingBy, apply_swaps, SwapsInRange}
use Rattle.std.proofs.lemmas.List.Recursion.{is_sum_by}
use Rattle.std.proofs.lemmas.List.Sorted.{sum_by-IsPermutation, Contains-permutation, IsPermutation-sym}
use Rattle.std.proofs.lemmas.Bool.Decides.{nat_tests}
use Rattle.std.proofs.lemmas.Bool.{eq-eqb}
use Rattle.std.proofs.lemmas.List.{map-set, length-map}
use Rattle.std.proofs.Math.ListN.{get_or-map, set}

-- x is one of the elements
abbrev pub IsOneOf : {X : Type 0} → X → List X → Type 0
IsOneOf x [] = ⊥
IsOneOf x (y ∷ ys) = (x ≡ y) ⊎ IsOneOf x ys

-- how many elements pass
abbrev pub count : {X : Type 0} → (X → Bool) → List X → ℕ
count p [] = 0
count p (x ∷ xs) = cond (p x) 1 0 + count p xs

module _ {X : Type 0} (n : X → ℕ) where
  -- each key is below all behind it
  abbrev pub IsRising : List X → Type 0
  IsRising [] = Unit {0}
  IsRising (y ∷ ys) = AllByRecursion (λ z. n y < n z) ys × IsRising ys

  -- each key is at most those behind it
  abbrev pub IsFlatOrRising : List X → Type 0
  IsFlatOrRising [] = Unit {0}
  IsFlatOrRising (y ∷ ys) = AllByRecursion (λ z. n y ≤ n z) ys × IsFlatOrRising ys

  all_of : (P : X → Type 0) (ys : List X) (x : X) → AllByRecursion P ys → IsOneOf x ys → P x
  all_of P [] x h one = absurd one
  all_of P (y ∷ ys) x h (inl e) = subst P (sym e) h.0
  all_of P (y ∷ ys) x h (inr one) = all_of P ys x h.1 one

  -- an element with this key
  abbrev HasKey : ℕ → List X → Type 0
  HasKey k [] = ⊥
  HasKey k (y ∷ ys) = (n y ≡ k) ⊎ HasKey k ys

  key_of : (k : ℕ) (ys : List X) (P : ℕ → Type 0) → AllByRecursion (λ z. P (n z)) ys → HasKey k ys → P k
  key_of k [] P h has = absurd has
  key_of k (y ∷ ys) P h (inl e) = subst P e h.0
  key_of k (y ∷ ys) P h (inr has) = key_of k ys P h.1 has

  has_key : (x : X) (ys : List X) → IsOneOf x ys → HasKey (n x) ys
  has_key x [] one = absurd one
  has_key x (y ∷ ys) (inl e) = inl (sym (ap n e))
  has_key x (y ∷ ys) (inr one) = inr (has_key x ys one)

  -- counting those with a key finds one
  counted : (k : ℕ) (ys : List X) → 0 < count (λ z. n z == k) ys → HasKey k ys
  counted k [] h = absurd (omega arith)
  counted k (y ∷ ys) h = by (n y == k) refl h (counted k ys)
    where
      by : (b : Bool) → (n y == k) ≡ b → 0 < cond b 1 0 + count (λ z. n z == k) ys → (0 < count (λ z. n z == k) ys → HasKey k ys) → HasKey k (y ∷ ys)
      by true e l later = inl (grind (arith, nat_tests))
      by false e l later = inr (later (omega arith))

  is_counted : (k : ℕ) (ys : List X) → HasKey k ys → 0 < count (λ z. n z == k) ys
  is_counted k [] has = absurd has
  is_counted k (y ∷ ys) (inl e) = let one : (n y == k) ≡ true = eq-eqb (n y) k e in rw one (omega arith)
  is_counted k (y ∷ ys) (inr has) =
      let rest : 0 < count (λ z. n z == k) ys = is_counted k ys has in
      elim (n y == k) as (λ b. 0 < cond b 1 0 + count (λ z. n z == k) ys) [ true ↦ omega arith | false ↦ omega arith ]

  -- the two lists have as many of each kind, and the first has no other elements
  pub record AreSame (xs ys : List X) : Type 0 where
    pub counts : (p : X → Bool) → count p xs ≡ count p ys
    pub within : (x : X) → IsOneOf x xs → IsOneOf x ys

  count_less : (b : Bool) (k m : ℕ) → cond b 1 0 + k ≡ cond b 1 0 + m → k ≡ m
  count_less true k m e = omega arith
  count_less false k m e = omega arith

  heads : (x y : X) (xs ys : List X) → AllByRecursion (λ z. n x ≤ n z) xs → AllByRecursion (λ z. n y < n z) ys → AreSame (x ∷ xs) (y ∷ ys) → x ≡ y
  heads x y xs ys flat rising same = by (same.within x (inl refl))
    where
      below : n x ≤ n y
      below = key_of (n y) (x ∷ xs) (λ k. n x ≤ k) (omega arith, flat) (counted (n y) (x ∷ xs) (subst (λ k. 0 < k) (sym (same.counts (λ z. n z == n y))) (is_counted (n y) (y ∷ ys) (inl refl))))

      by : (x ≡ y) ⊎ IsOneOf x ys → x ≡ y
      by (inl e) = e
      by (inr one) = absurd (let above : n y < n x = all_of (λ z. n y < n z) ys x rising one in omega (arith, below))

  tails : (x : X) (xs ys : List X) → AllByRecursion (λ z. n x < n z) ys → AreSame (x ∷ xs) (x ∷ ys) → AreSame xs ys
  tails x xs ys rising same = record { counts = fewer; within = inside }
    where
      fewer : (p : X → Bool) → count p xs ≡ count p ys
      fewer p = count_less (p x) (count p xs) (count p ys) (same.counts p)

      inside : (z : X) → IsOneOf z xs → IsOneOf z ys
      inside z one = by (same.within z (inr one))
        where
          by : (z ≡ x) ⊎ IsOneOf z ys → IsOneOf z ys
          by (inr there) = there
          by (inl e) = absurd (
              let twice : HasKey (n x) ys = counted (n x) ys (subst (λ k. 0 < k) (fewer (λ w. n w == n x)) (is_counted (n x) xs (subst (λ k. HasKey k xs) (ap n e) (has_key z xs one)))) in
              let above : n x < n x = key_of (n x) ys (λ k. n x < k) rising twice in
              omega arith)

  pub rising_is_only : (xs ys : List X) → IsFlatOrRising xs → IsRising ys → AreSame xs ys → xs ≡ ys
  rising_is_only [] [] flat rising same = refl
  rising_is_only [] (y ∷ ys) flat rising same = absurd (let c : 0 ≡ 1 + count (λ z. true) ys = same.counts (λ z. true) in omega arith)
  rising_is_only (x ∷ xs) [] flat rising same = absurd (same.within x (inl refl))
  rising_is_only (x ∷ xs) (y ∷ ys) flat rising same =
      let head : x ≡ y = heads x y xs ys flat.0 rising.0 same in
      let up : AllByRecursion (λ z. n x < n z) ys = subst (λ w. AllByRecursion (λ z. n w < n z) ys) (sym head) rising.0 in
      let rest : AreSame xs ys = tails x xs ys up (subst (λ w. AreSame (x ∷ xs) (w ∷ ys)) (sym head) same) in
      ap₂ (λ z zs. z ∷ zs) head (rising_is_only xs ys flat.1 rising.1 rest)

-- ---- what a sort leaves

module _ {X : Type 0} where
  one_of_at : (xs : List X) (i : ℕ) (d : X) → i < length xs → IsOneOf (get_or xs i d) xs
  one_of_at [] i d l = absurd (omega arith)
  one_of_at (x ∷ xs) zero d l = inl refl
  one_of_at (x ∷ xs) (suc i) d l = inr (one_of_at xs i d (omega arith))

  one_from_contains : (xs : List X) (x : X) → Contains xs x → IsOneOf x xs
  one_from_contains xs x (k, l, e) = subst (λ z. IsOneOf z xs) e (one_of_at xs k x l)

  contains_one : (xs : List X) (x : X) → IsOneOf x xs → Contains xs x
  contains_one [] x one = absurd one
  contains_one (y ∷ ys) x (inl e) = (0, omega arith, sym e)
  contains_one (y ∷ ys) x (inr one) =
      let rest : Contains ys x = contains_one ys x one in
      (suc rest.0, omega (arith, rest.1), rest.2)

  count_is_sum : (p : X → Bool) (xs : List X) → count p xs ≡ sum_by (λ x. cond (p x) 1 0) xs
  count_is_sum p xs = is_sum_by (count p) (λ x. cond (p x) 1 0) refl (λ x ys. refl) xs

  pub same_of_permutation : (n : X → ℕ) (xs ys : List X) → IsPermutation ys xs → AreSame n xs ys
  same_of_permutation n xs ys moved = record {
    counts = λ p. count_is_sum p xs ∙ sum_by-IsPermutation (λ x. cond (p x) 1 0) ys xs moved ∙ sym (count_is_sum p ys);
    within = λ x one. one_from_contains ys x (Contains-permutation xs ys x (IsPermutation-sym ys xs moved) (contains_one xs x one));
  }

  flat_head : (n : X → ℕ) (x : X) (xs : List X) → ((j : ℕ) (d : X) → j < length xs → n x ≤ n (get_or xs j d)) → AllByRecursion (λ z. n x ≤ n z) xs
  flat_head n x [] h = tt
  flat_head n x (y ∷ ys) h = (h 0 y (omega arith), flat_head n x ys (λ j d l. h (suc j) d (omega arith)))

  pub flat_of : (n : X → ℕ) (xs : List X) → IsNonDecreasingBy n xs → IsFlatOrRising n xs
  flat_of n [] h = tt
  flat_of n (x ∷ xs) h = (
    flat_head n x xs (λ j d l. h 0 (suc j) d (omega arith) (omega arith)),
    flat_of n xs (λ i j d le l. h (suc i) (suc j) d (omega arith) (omega arith)),
  )

  -- what is sorted by keys that rose before is as it was
  pub sorted_is_risen : (n : X → ℕ) (xs ys : List X) → IsRising n ys → IsPermutation ys xs → IsNonDecreasingBy n xs → xs ≡ ys
  sorted_is_risen n xs ys rising moved sorted = rising_is_only n xs ys (flat_of n xs sorted) rising (same_of_permutation n xs ys moved)

-- ---- a permutation, under a map

module _ {X Y : Type 0} (f : X → Y) where
  map-swap : (xs : List X) (i j : ℕ) → map f (swap xs i j) ≡ swap (map f xs) i j
  map-swap [] i j = refl
  map-swap (d ∷ ys) i j =
      map-set f (set (d ∷ ys) i (get_or (d ∷ ys) j d)) j (get_or (d ∷ ys) i d)
      ∙ ap (λ zs. set zs j (f (get_or (d ∷ ys) i d))) (map-set f (d ∷ ys) i (get_or (d ∷ ys) j d))
      ∙ ap₂ (λ a b. set (set (map f (d ∷ ys)) i a) j b) (sym (get_or-map f (d ∷ ys) j d)) (sym (get_or-map f (d ∷ ys) i d))

  map-apply_swaps : (xs : List X) (ms : List (ℕ × ℕ)) → map f (apply_swaps xs ms) ≡ apply_swaps (map f xs) ms
  map-apply_swaps xs [] = refl
  map-apply_swaps xs (m ∷ ms) = map-swap (apply_swaps xs ms) m.0 m.1 ∙ ap (λ z. swap z m.0 m.1) (map-apply_swaps xs ms)

  -- what a permutation of the images is the image of
  pub moved_back : (xs : List X) (zs : List Y) → IsPermutation (map f xs) zs → (ys : List X) × IsPermutation xs ys × (map f ys ≡ zs)
  moved_back xs zs h = (
    apply_swaps xs h.moves,
    record { moves = h.moves; below = subst (λ n. SwapsInRange n h.moves) (length-map xs f) h.below; is = refl },
    map-apply_swaps xs h.moves ∙ sym h.is,
  )
