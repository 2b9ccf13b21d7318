-- The steps of loops.
use Rattle.std.proofs.Common.{◌≡◌, ℕ, zero, suc, ◌+◌, ◌<◌, ◌≤◌, Bool, true, false, ◌||◌, List, [], ◌∷◌, ◌++◌, length, get_or, take, drop, map, refl, sym, ap, ◌∙◌, arith}
use Rattle.std.specs.List.{list_any, list_all}
use Rattle.std.specs.FinSet.{union, empty, contains, contains-union, contains-empty, same_set, nat_cmp-IsAntisymmetric}
use Rattle.std.specs.Cmp.{nat_cmp_total}
use Rattle.std.specs.Ordering.{nat_cmp}
use Rattle.std.proofs.lemmas.List.{map-append}
use Rattle.std.proofs.lemmas.Bool.{or_from, and_from}
use Rattle.std.proofs.lemmas.List.Folds.{list_any_more, list_all_more, list_any_at, list_all_at, list_any-append}
use Rattle.field_schema.specs.declared.key.Key.{Key}
use Rattle.doc_sets.specs.Sets.{Numbers}
use Rattle.segment_postings.specs.declared.posting.Counts.{Counts}
use Rattle.segment_postings.specs.Numbered.{Numbered}
use Rattle.query_eval.specs.Kept.{Kept}

-- ---- what stays

pub kept_on : {S : Type 0} (seen : S → Numbered) (keys : S → ℕ → List Key) (counted : S → Counts) (a b c : S) → Kept seen keys counted a b → Kept seen keys counted b c → Kept seen keys counted a c
kept_on seen keys counted a b c k l = record {
  view = l.view ∙ k.view;
  terms = l.terms ∙ k.terms;
  values = l.values ∙ k.values;
  stored = l.stored ∙ k.stored;
}

-- ---- one more of a list

pub take_all : {A : Type 0} (i : ℕ) (ys : List A) → length ys ≤ i → take i ys ≡ ys
take_all zero [] h = refl
take_all zero (y ∷ ys) h = absurd (omega (arith, h))
take_all (suc i) [] h = refl
take_all (suc i) (y ∷ ys) h = ap (λ zs. y ∷ zs) (take_all i ys (omega (arith, h)))

module _ {A : Type 0} (p : A → Bool) (xs : List A) where
  pub any_step : (i : ℕ) (x : A) → i < length xs → x ≡ get_or xs i x → list_any p (take i xs) ≡ false → p x ≡ false → list_any p (take (i + 1) xs) ≡ false
  any_step i x h is none here = list_any_more p xs i x h ∙ or_from (list_any p (take i xs)) (p (get_or xs i x)) none (sym (ap p is) ∙ here)

  pub any_here : (i : ℕ) (x : A) → i < length xs → x ≡ get_or xs i x → p x ≡ true → list_any p xs ≡ true
  any_here i x h is here = list_any_at p xs i x h (sym (ap p is) ∙ here)

  pub any_end : (i : ℕ) → length xs ≤ i → list_any p (take i xs) ≡ false → list_any p xs ≡ false
  any_end i h none = sym (ap (list_any p) (take_all i xs h)) ∙ none

  pub all_step : (i : ℕ) (x : A) → i < length xs → x ≡ get_or xs i x → list_all p (take i xs) ≡ true → p x ≡ true → list_all p (take (i + 1) xs) ≡ true
  all_step i x h is all here = list_all_more p xs i x h ∙ and_from (list_all p (take i xs)) (p (get_or xs i x)) all (sym (ap p is) ∙ here)

  pub all_fails : (i : ℕ) (x : A) → i < length xs → x ≡ get_or xs i x → p x ≡ false → list_all p xs ≡ false
  all_fails i x h is here = list_all_at p xs i x h (sym (ap p is) ∙ here)

  pub all_end : (i : ℕ) → length xs ≤ i → list_all p (take i xs) ≡ true → list_all p xs ≡ true
  all_end i h all = sym (ap (list_all p) (take_all i xs h)) ∙ all

-- ---- many sets

pub joined : (a b : Numbers) (rest : List Numbers) (n : ℕ) → list_any (λ t. contains t n) (rest ++ union a b ∷ []) ≡ list_any (λ t. contains t n) (a ∷ b ∷ rest)
joined a b rest n =
    list_any-append (λ t. contains t n) rest (union a b ∷ [])
    ∙ ap (λ c. list_any (λ t. contains t n) rest || (c || false)) (contains-union nat_cmp_total a b n)
    ∙ turned (list_any (λ t. contains t n) rest) (contains a n) (contains b n)
  where
    turned : (r x y : Bool) → (r || ((x || y) || false)) ≡ (x || (y || r))
    turned true true y = refl
    turned true false true = refl
    turned true false false = refl
    turned false true y = refl
    turned false false true = refl
    turned false false false = refl

pub with_none : (s : Numbers) → union s empty ≡ s
with_none s = same_set nat_cmp_total nat_cmp-IsAntisymmetric _ _ (λ n.
    contains-union nat_cmp_total s empty n ∙ ap (λ b. contains s n || b) (contains-empty nat_cmp n) ∙ or_none (contains s n))
  where
    or_none : (b : Bool) → (b || false) ≡ b
    or_none true = refl
    or_none false = refl

-- ---- one more of a list, as a list

take_suc : {A : Type 0} (i : ℕ) (xs : List A) (x : A) → i < length xs → x ≡ get_or xs i x → take (suc i) xs ≡ take i xs ++ x ∷ []
take_suc i [] x h is = absurd (omega (arith, h))
take_suc zero (y ∷ ys) x h is = ap (λ z. z ∷ []) (sym is)
take_suc (suc i) (y ∷ ys) x h is = ap (λ zs. y ∷ zs) (take_suc i ys x (omega (arith, h)) is)

pub take_one : {A : Type 0} (i : ℕ) (xs : List A) (x : A) → i < length xs → x ≡ get_or xs i x → take (i + 1) xs ≡ take i xs ++ x ∷ []
take_one i xs x h is =
    let e : i + 1 ≡ suc i = omega arith in
    ap (λ n. take n xs) e ∙ take_suc i xs x h is

drop_suc : {A : Type 0} (i : ℕ) (xs : List A) (x : A) → i < length xs → x ≡ get_or xs i x → drop i xs ≡ x ∷ drop (suc i) xs
drop_suc i [] x h is = absurd (omega (arith, h))
drop_suc zero (y ∷ ys) x h is = ap (λ z. z ∷ ys) (sym is)
drop_suc (suc i) (y ∷ ys) x h is = drop_suc i ys x (omega (arith, h)) is

pub drop_one : {A : Type 0} (i : ℕ) (xs : List A) (x : A) → i < length xs → x ≡ get_or xs i x → drop i xs ≡ x ∷ drop (i + 1) xs
drop_one i xs x h is =
    let e : suc i ≡ i + 1 = omega arith in
    drop_suc i xs x h is ∙ ap (λ n. x ∷ drop n xs) e

pub map_one : {A B : Type 0} (f : A → B) (i : ℕ) (xs : List A) (x : A) → i < length xs → x ≡ get_or xs i x → map f (take (i + 1) xs) ≡ map f (take i xs) ++ f x ∷ []
map_one f i xs x h is = ap (map f) (take_one i xs x h is) ∙ map-append f (take i xs) (x ∷ [])
