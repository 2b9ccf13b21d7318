-- Lists of numbers as sets.
use Rattle.std.proofs.Common.{◌≡◌, ℕ, zero, suc, ◌<◌, Bool, true, false, ◌||◌, List, [], ◌∷◌, length, get_or, nat_eq, refl, sym, ap, subst, ◌∙◌, arith, All, inl, inr}
use Rattle.std.specs.List.{Contains, dedup}
use Rattle.std.specs.List.Sorted.{IsPermutation, IsSorted, IsStrictlyIncreasing}
use Rattle.std.specs.FinSet.{from_list, contains-from_list_nat, same_set, nat_cmp-IsAntisymmetric}
use Rattle.std.specs.Cmp.{nat_cmp_total}
use Rattle.std.specs.Ordering.{nat_cmp}
use Rattle.std.proofs.Common.{eq-eqb}
use Rattle.std.proofs.Math.Dec.{eqb}
use Rattle.std.proofs.lemmas.Bool.Decides.{eqb_tells}
use Rattle.std.proofs.lemmas.List.Kept.{Contains-dedup_nat, Contains-from_dedup}
use Rattle.std.proofs.lemmas.List.Sorted.{list_any-IsPermutation}
use Rattle.std.proofs.lemmas.List.Sorted.{All-permutation}
use Rattle.std.proofs.lemmas.List.Filters.{All-dedup, dedup_is}
use Rattle.std.proofs.lemmas.Map.Keys.{IsStrictlyIncreasing-dedup}
use Rattle.std.specs.List.Retain.{IsFiltered, DiffersFromLast}
use Rattle.doc_sets.specs.Sets.{is_in}
use Rattle.doc_sets.specs.declared.TheConstants.{MAX_DOCS}

or_true : (b : Bool) → (b || true) ≡ true
or_true true = refl
or_true false = refl

same_truth : (a b : Bool) → (a ≡ true → b ≡ true) → (b ≡ true → a ≡ true) → a ≡ b
same_truth true b there back = sym (there refl)
same_truth false true there back = back refl
same_truth false false there back = refl

is_in-at : (xs : List ℕ) (q k : ℕ) → k < length xs → get_or xs k q ≡ q → is_in xs q ≡ true
is_in-at [] q k low e = absurd (omega arith)
is_in-at (x ∷ xs) q zero low e = ap (λ b. b || is_in xs q) (eq-eqb x q e)
is_in-at (x ∷ xs) q (suc k) low e = ap (λ b. nat_eq x q || b) (is_in-at xs q k (omega arith) e) ∙ or_true (nat_eq x q)

at_of : (xs : List ℕ) (q : ℕ) → is_in xs q ≡ true → Contains xs q
at_of [] q h = let no : false ≡ true = h in absurd (cc)
at_of (x ∷ xs) q h = elim (eqb_tells x q) [
  | inl t ↦ (0, omega arith, t.1)
  | inr t ↦ let r : Contains xs q = at_of xs q (sym (ap (λ b. b || is_in xs q) t.0) ∙ h) in (suc r.0, omega (arith, r.1), r.2)
]

is_in-dedup : (xs : List ℕ) (q : ℕ) → is_in (dedup eqb xs) q ≡ is_in xs q
is_in-dedup xs q = same_truth (is_in (dedup eqb xs) q) (is_in xs q)
    (λ h. let r : Contains xs q = Contains-from_dedup eqb xs q (at_of (dedup eqb xs) q h) in is_in-at xs q r.0 r.1 r.2)
    (λ h. let r : Contains (dedup eqb xs) q = Contains-dedup_nat xs q (at_of xs q h) in is_in-at (dedup eqb xs) q r.0 r.1 r.2)

-- the set of a list in another order, each number once
pub set_of_sorted : (xs sorted : List ℕ) → IsPermutation xs sorted → from_list {R = nat_cmp} (dedup eqb sorted) ≡ from_list xs
set_of_sorted xs sorted perm = same_set nat_cmp_total nat_cmp-IsAntisymmetric _ _ (λ q.
    contains-from_list_nat (dedup eqb sorted) q ∙ is_in-dedup sorted q ∙ sym (list_any-IsPermutation (λ x. nat_eq x q) xs sorted perm)
    ∙ sym (contains-from_list_nat xs q))

-- ---- a sort of a copy, each number once

module _ (xs copy sorted once shown : List ℕ) (same : copy ≡ xs) (perm : IsPermutation copy sorted) (filtered : IsFiltered (DiffersFromLast eqb) [] sorted once) (at : shown ≡ once) where
  shown_is : shown ≡ dedup eqb sorted
  shown_is = at ∙ dedup_is eqb sorted once filtered

  pub shown_rises : IsSorted nat_cmp sorted → IsStrictlyIncreasing shown
  shown_rises up = subst IsStrictlyIncreasing (sym shown_is) (IsStrictlyIncreasing-dedup sorted up)

  pub shown_below : All (λ n. n < MAX_DOCS) xs → All (λ n. n < MAX_DOCS) shown
  shown_below h =
      subst (All (λ n. n < MAX_DOCS)) (sym shown_is)
      (All-dedup eqb (λ n. n < MAX_DOCS) sorted (All-permutation (λ n. n < MAX_DOCS) copy sorted perm (subst (All (λ n. n < MAX_DOCS)) (sym same) h)))

  pub shown_set : from_list {R = nat_cmp} shown ≡ from_list xs
  shown_set = ap from_list shown_is ∙ set_of_sorted copy sorted perm ∙ ap from_list same
