-- Members of lists of numbers, and lists that ascend.
use Rattle.std.proofs.Common.{◌≡◌, ◌≢◌, ◌⊎◌, ℕ, ◌<◌, List, [], ◌∷◌, ◌++◌, Bool, true, false, not, cond, ◌&&◌, ◌||◌, ◌==◌, filter, refl, arith}
use Rattle.std.proofs.lemmas.Grind.{common_steps}
use Rattle.std.proofs.lemmas.Bool.Decides.{nat_tests}
use Rattle.std.specs.List.{AllByRecursion}
use Rattle.registry_machine.specs.Machine.{is_in}
use Rattle.registry_machine.specs.Orders.{Ascends}

pub true_and_false : (b : Bool) → b ≡ true → b ≡ false → ⊥
true_and_false b x y = grind arith

pub not_both : (b : Bool) → b ≡ false → b ≡ true → ⊥
not_both b x y = grind arith

pub false_true : false ≡ true → ⊥
false_true e = grind arith

pub same_test : (x : ℕ) → (x == x) ≡ true
same_test x = grind (arith, nat_tests)

pub test_same : (x y : ℕ) → (x == y) ≡ true → x ≡ y
test_same x y e = grind (arith, nat_tests)

pub test_other : (x y : ℕ) → (x == y) ≡ false → x ≢ y
test_other x y e = grind (arith, nat_tests)

pub other_test : (x y : ℕ) → x ≢ y → (x == y) ≡ false
other_test x y e = grind (arith, nat_tests)

pub in_append : (g : ℕ) (xs ys : List ℕ) → is_in g (xs ++ ys) ≡ (is_in g xs || is_in g ys)
in_append g [] ys = refl
in_append g (x ∷ xs) ys = let e = in_append g xs ys in grind (arith, common_steps, e)

pub in_last : (g x : ℕ) (xs : List ℕ) → is_in g (xs ++ x ∷ []) ≡ true → (is_in g xs ≡ true) ⊎ (g ≡ x)
in_last g x xs h = let e = in_append g xs (x ∷ []) in grind (arith, nat_tests, e)

pub in_last_here : (g : ℕ) (xs : List ℕ) → is_in g (xs ++ g ∷ []) ≡ true
in_last_here g xs = let e = in_append g xs (g ∷ []) in let s = same_test g in grind (arith, nat_tests, e, s)

pub not_in_last : (g x : ℕ) (xs : List ℕ) → is_in g xs ≡ false → g ≢ x → is_in g (xs ++ x ∷ []) ≡ false
not_in_last g x xs h n = let e = in_append g xs (x ∷ []) in grind (arith, nat_tests, e)

in_rest : (g x y : ℕ) (xs : List ℕ) (b : Bool) → is_in g (cond b (y ∷ xs) xs) ≡ (is_in g xs || (b && (y == g)))
in_rest g x y xs true = grind (arith, nat_tests)
in_rest g x y xs false = grind (arith, nat_tests)

pub in_without : (g x : ℕ) (xs : List ℕ) → is_in g (filter (λ y. not (y == x)) xs) ≡ (is_in g xs && not (g == x))
in_without g x [] = refl
in_without g x (y ∷ ys) = let e = in_without g x ys in let k = in_rest g x y (filter (λ z. not (z == x)) ys) (not (y == x)) in grind (arith, nat_tests, e, k)

pub in_kept : (g x : ℕ) (xs : List ℕ) → is_in g (filter (λ y. not (y == x)) xs) ≡ true → (is_in g xs ≡ true) × (g ≢ x)
in_kept g x xs h = let e = in_without g x xs in grind (arith, nat_tests, e)

pub not_in_kept : (g x : ℕ) (xs : List ℕ) → is_in g xs ≡ false → is_in g (filter (λ y. not (y == x)) xs) ≡ false
not_in_kept g x xs h = let e = in_without g x xs in grind (arith, nat_tests, e)

pub not_in_own : (g : ℕ) (xs : List ℕ) → is_in g (filter (λ y. not (y == g)) xs) ≡ false
not_in_own g xs = let e = in_without g g xs in let s = same_test g in grind (arith, nat_tests, e, s)

pub all_from_in : (P : ℕ → Type 0) (xs : List ℕ) → ((g : ℕ) → is_in g xs ≡ true → P g) → AllByRecursion P xs
all_from_in P [] h = tt
all_from_in P (x ∷ xs) h = (h x (let s = same_test x in grind (arith, nat_tests, s)), all_from_in P xs (λ g i. h g (grind (arith, nat_tests, i))))

-- ---- ascending

pub ascends_last : (xs : List ℕ) (y : ℕ) → Ascends xs → AllByRecursion (λ x. x < y) xs → Ascends (xs ++ y ∷ [])
ascends_last [] y a h = (tt, tt)
ascends_last (x ∷ xs) y a h = (all_last xs y (λ z. x < z) a.0 h.0, ascends_last xs y a.1 h.1)
  where
    all_last : (xs : List ℕ) (y : ℕ) (P : ℕ → Type 0) → AllByRecursion P xs → P y → AllByRecursion P (xs ++ y ∷ [])
    all_last [] y P h p = (p, tt)
    all_last (z ∷ zs) y P h p = (h.0, all_last zs y P h.1 p)

pub all_filter : (P : ℕ → Type 0) (p : ℕ → Bool) (xs : List ℕ) → AllByRecursion P xs → AllByRecursion P (filter p xs)
all_filter P p [] h = tt
all_filter P p (x ∷ xs) h = at_test (p x) (all_filter P p xs h.1)
  where
    at_test : (b : Bool) → AllByRecursion P (filter p xs) → AllByRecursion P (cond b (x ∷ filter p xs) (filter p xs))
    at_test true k = (h.0, k)
    at_test false k = k

pub ascends_filter : (p : ℕ → Bool) (xs : List ℕ) → Ascends xs → Ascends (filter p xs)
ascends_filter p [] a = tt
ascends_filter p (x ∷ xs) a = at_test (p x) (ascends_filter p xs a.1)
  where
    at_test : (b : Bool) → Ascends (filter p xs) → Ascends (cond b (x ∷ filter p xs) (filter p xs))
    at_test true k = (all_filter (λ y. x < y) p xs a.0, k)
    at_test false k = k
