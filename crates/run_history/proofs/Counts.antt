-- How many elements of a list pass a test.
use Rattle.std.proofs.Common.{◌≡◌, ◌≢◌, ℕ, zero, suc, ◌+◌, ◌<◌, ◌≤◌, List, [], ◌∷◌, ◌++◌, length, map, Bool, true, false, cond, ◌==◌, filter_map, count_by, Option, Some, None, refl, sym, ap, ap₂, subst, ◌∙◌, inl, inr, arith}
use Rattle.std.proofs.lemmas.List.Sums.{sum_by-cons, sum_by-append}
use Rattle.std.specs.List.{AllByRecursion, range_with_len, cons_option}
use Rattle.registry_machine.proofs.Lists.{test_same, test_other, other_test}
use Rattle.run_history.proofs.Elements.{In}

module _ {A : Type 0} where
  pub count_cons : (q : A → Bool) (x : A) (xs : List A) → count_by q (x ∷ xs) ≡ cond (q x) 1 0 + count_by q xs
  count_cons q x xs = sum_by-cons (λ y. cond (q y) 1 0) x xs

  pub count_append : (q : A → Bool) (xs ys : List A) → count_by q (xs ++ ys) ≡ count_by q xs + count_by q ys
  count_append q xs ys = sum_by-append (λ y. cond (q y) 1 0) xs ys

  -- two tests that agree on each element count the same
  pub count_same : (q p : A → Bool) (xs : List A) → ((x : A) → In x xs → q x ≡ p x) → count_by q xs ≡ count_by p xs
  count_same q p [] h = refl
  count_same q p (x ∷ xs) h = count_cons q x xs ∙ (ap₂ (λ b n. cond b 1 0 + n) (h x (inl refl)) (count_same q p xs (λ y i. h y (inr i))) ∙ sym (count_cons p x xs))

  pub count_none : (q : A → Bool) (xs : List A) → ((x : A) → In x xs → q x ≡ false) → count_by q xs ≡ 0
  count_none q [] h = refl
  count_none q (x ∷ xs) h = count_cons q x xs ∙ ap₂ (λ b n. cond b 1 0 + n) (h x (inl refl)) (count_none q xs (λ y i. h y (inr i)))

  pub count_found : (q : A → Bool) (xs : List A) → 0 < count_by q xs → (x : A) × In x xs × (q x ≡ true)
  count_found q [] h = absurd (omega (arith, h))
  count_found q (x ∷ xs) h = by_test (q x) refl (count_found q xs)
    where
      by_test : (b : Bool) → q x ≡ b → (0 < count_by q xs → (y : A) × In y xs × (q y ≡ true)) → (y : A) × In y (x ∷ xs) × (q y ≡ true)
      by_test true e rest = (x, inl refl, e)
      by_test false e rest =
          let c = count_cons q x xs in
          let d : count_by q (x ∷ xs) ≡ 0 + count_by q xs = c ∙ ap (λ b. cond b 1 0 + count_by q xs) e in
          let k = rest (omega (arith, h, d)) in (k.0, inr k.1, k.2)

  pub count_map : {B : Type 0} (f : A → B) (q : B → Bool) (xs : List A) → count_by q (map f xs) ≡ count_by (λ x. q (f x)) xs
  count_map f q [] = refl
  count_map f q (x ∷ xs) = let a = sum_by-cons (λ y. cond (q y) 1 0) (f x) (map f xs) in let b = count_cons (λ y. q (f y)) x xs in let c = count_map f q xs in a ∙ (ap (λ n. cond (q (f x)) 1 0 + n) c ∙ sym b)

-- whether there is an image that passes
abbrev pub passes : {B : Type 0} → (B → Bool) → Option B → Bool
passes q None = false
passes q (Some y) = q y

count_put : {B : Type 0} (q : B → Bool) (o : Option B) (ys : List B) (n : ℕ) → count_by q ys ≡ n → count_by q (cons_option o ys) ≡ cond (passes q o) 1 0 + n
count_put q None ys n e = e ∙ omega arith
count_put q (Some y) ys n e = sum_by-cons (λ z. cond (q z) 1 0) y ys ∙ ap (λ m. cond (q y) 1 0 + m) e

pub count_filter_map : {A B : Type 0} (f : A → Option B) (q : B → Bool) (xs : List A) → count_by q (filter_map f xs) ≡ count_by (λ x. passes q (f x)) xs
count_filter_map f q [] = refl
count_filter_map f q (x ∷ xs) = count_put q (f x) (filter_map f xs) (count_by (λ y. passes q (f y)) xs) (count_filter_map f q xs) ∙ sym (count_cons (λ y. passes q (f y)) x xs)

-- ---- numbers

pub count_range_below : (k a n : ℕ) → k < a → count_by (λ x. x == k) (range_with_len a n) ≡ 0
count_range_below k a zero lt = refl
count_range_below k a (suc n) lt = count_cons (λ x. x == k) a (range_with_len (a + 1) n) ∙ ap₂ (λ b m. cond b 1 0 + m) (other_test a k (λ e. omega (arith, e, lt))) (count_range_below k (a + 1) n (omega arith))

-- each number of a range stands in it once
pub count_range : (k a n : ℕ) → a ≤ k → k < a + n → count_by (λ x. x == k) (range_with_len a n) ≡ 1
count_range k a zero le lt = absurd (omega arith)
count_range k a (suc n) le lt = count_cons (λ x. x == k) a (range_with_len (a + 1) n) ∙ by_test (a == k) refl (λ other. count_range k (a + 1) n (omega (arith, other)) (omega arith))
  where
    by_test : (b : Bool) → (a == k) ≡ b → (a ≢ k → count_by (λ x. x == k) (range_with_len (a + 1) n) ≡ 1) → cond (a == k) 1 0 + count_by (λ x. x == k) (range_with_len (a + 1) n) ≡ 1
    by_test true e rest = ap₂ (λ b m. cond b 1 0 + m) e (count_range_below k (a + 1) n (let same = test_same a k e in omega (arith, same)))
    by_test false e rest = ap₂ (λ b m. cond b 1 0 + m) e (rest (test_other a k e))

-- ---- how many there are

-- without the number m, which stands once
without : ℕ → List ℕ → List ℕ
without m [] = []
without m (x ∷ xs) = cond (x == m) (without m xs) (x ∷ without m xs)

length_without : (m : ℕ) (xs : List ℕ) → length (without m xs) + count_by (λ x. x == m) xs ≡ length xs
unfolding without
length_without m [] = refl
length_without m (x ∷ xs) = by_test (x == m) refl (length_without m xs) (count_cons (λ y. y == m) x xs)
  where
    by_test : (b : Bool) → (x == m) ≡ b → length (without m xs) + count_by (λ y. y == m) xs ≡ length xs → count_by (λ y. y == m) (x ∷ xs) ≡ cond (x == m) 1 0 + count_by (λ y. y == m) xs → length (cond (x == m) (without m xs) (x ∷ without m xs)) + count_by (λ y. y == m) (x ∷ xs) ≡ suc (length xs)
    by_test true e h c =
        let d : count_by (λ y. y == m) (x ∷ xs) ≡ 1 + count_by (λ y. y == m) xs = c ∙ ap (λ b. cond b 1 0 + count_by (λ y. y == m) xs) e in
        subst (λ b. length (cond b (without m xs) (x ∷ without m xs)) + count_by (λ y. y == m) (x ∷ xs) ≡ suc (length xs)) (sym e) (omega (arith, h, d))
    by_test false e h c =
        let d : count_by (λ y. y == m) (x ∷ xs) ≡ 0 + count_by (λ y. y == m) xs = c ∙ ap (λ b. cond b 1 0 + count_by (λ y. y == m) xs) e in
        subst (λ b. length (cond b (without m xs) (x ∷ without m xs)) + count_by (λ y. y == m) (x ∷ xs) ≡ suc (length xs)) (sym e) (omega (arith, h, d))

count_without : (k m : ℕ) (xs : List ℕ) → k ≢ m → count_by (λ x. x == k) (without m xs) ≡ count_by (λ x. x == k) xs
unfolding without
count_without k m [] n = refl
count_without k m (x ∷ xs) n = by_test (x == m) refl (count_without k m xs n) (count_cons (λ y. y == k) x xs)
  where
    by_test : (b : Bool) → (x == m) ≡ b → count_by (λ y. y == k) (without m xs) ≡ count_by (λ y. y == k) xs → count_by (λ y. y == k) (x ∷ xs) ≡ cond (x == k) 1 0 + count_by (λ y. y == k) xs → count_by (λ y. y == k) (cond (x == m) (without m xs) (x ∷ without m xs)) ≡ count_by (λ y. y == k) (x ∷ xs)
    by_test true e h c =
        let same = test_same x m e in
        let other = other_test x k (λ s. n (sym s ∙ same)) in
        let d : count_by (λ y. y == k) (x ∷ xs) ≡ 0 + count_by (λ y. y == k) xs = c ∙ ap (λ b. cond b 1 0 + count_by (λ y. y == k) xs) other in
        subst (λ b. count_by (λ y. y == k) (cond b (without m xs) (x ∷ without m xs)) ≡ count_by (λ y. y == k) (x ∷ xs)) (sym e) (omega (arith, h, d))
    by_test false e h c =
        let f = count_cons (λ y. y == k) x (without m xs) in
        subst (λ b. count_by (λ y. y == k) (cond b (without m xs) (x ∷ without m xs)) ≡ count_by (λ y. y == k) (x ∷ xs)) (sym e) (f ∙ (ap (λ z. cond (x == k) 1 0 + z) h ∙ sym c))

below_without : (m : ℕ) (xs : List ℕ) → AllByRecursion (λ x. x < suc m) xs → AllByRecursion (λ x. x < m) (without m xs)
unfolding without
below_without m [] h = tt
below_without m (x ∷ xs) h = by_test (x == m) refl (below_without m xs h.1)
  where
    by_test : (b : Bool) → (x == m) ≡ b → AllByRecursion (λ y. y < m) (without m xs) → AllByRecursion (λ y. y < m) (cond (x == m) (without m xs) (x ∷ without m xs))
    by_test true e k = subst (λ b. AllByRecursion (λ y. y < m) (cond b (without m xs) (x ∷ without m xs))) (sym e) k
    by_test false e k = subst (λ b. AllByRecursion (λ y. y < m) (cond b (without m xs) (x ∷ without m xs))) (sym e) ((let o = test_other x m e in let lt = h.0 in omega (arith, o, lt)), k)

-- numbers below m, each of which stands once, are m
pub counts_length : (m : ℕ) (xs : List ℕ) → AllByRecursion (λ x. x < m) xs → ((k : ℕ) → k < m → count_by (λ x. x == k) xs ≡ 1) → length xs ≡ m
counts_length zero [] h c = refl
counts_length zero (x ∷ xs) h c = absurd (let lt = h.0 in omega (arith, lt))
counts_length (suc m) xs h c =
    let a = length_without m xs in
    let b = c m (omega arith) in
    let k = counts_length m (without m xs) (below_without m xs h) (λ j lt. count_without j m xs (λ e. omega (arith, e, lt)) ∙ c j (omega arith)) in
    omega (arith, a, b, k)
