-- The steps of a comparison of two queries and of two lists of queries.
use Rattle.std.proofs.Common.{◌≡◌, ℕ, zero, suc, ◌+◌, ◌<◌, min, true, false, List, [], ◌∷◌, length, get_or, drop, refl, ap, sym, ◌∙◌, arith}
use Rattle.std.specs.declared.cmp.Ordering.{Ordering}
use Rattle.std.specs.declared.cmp.Ordering.TheVariants.{Less, Equal, Greater}
use Rattle.std.specs.Ordering.{nat_cmp, ordering_then, is_ne}
use Rattle.std.specs.Cmp.{nat_cmp_is}
use Rattle.std.specs.Cmp.Lexicographic.{slice_cmp}
use Rattle.std.proofs.lemmas.List.{drop_more}
use Rattle.std.proofs.lemmas.Bool.Decides.{nat_tests}
use mathlib.Core.Bool.{true≢false}
use Rattle.query_tree.specs.declared.query.Query.{Query, out-Query}
use Rattle.query_tree.specs.declared.query.Query.TheViews as query
use Rattle.query_tree.specs.Order.{layer_cmp, query_cmp, queries_cmp}
use Rattle.query_tree.specs.OrderLaws.{then_Equal}
use Rattle.query_tree.specs.QueryLaws.{query_cmp-is}

-- ---- an order and then another

pub first_decides : (o rest : Ordering) → is_ne o ≡ true → o ≡ ordering_then o rest
first_decides Less rest h = refl
first_decides Equal rest h = absurd (true≢false (sym h))
first_decides Greater rest h = refl

pub rest_decides : (o rest : Ordering) → is_ne o ≡ false → rest ≡ ordering_then o rest
rest_decides Less rest h = absurd (true≢false h)
rest_decides Equal rest h = refl
rest_decides Greater rest h = absurd (true≢false h)

-- ---- two Boolean queries

module _ (a b : Query) (must should not_ must' should' not' : List Query) (is : a ≡ query.Bool must should not_) (is' : b ≡ query.Bool must' should' not') where
  by_parts : query_cmp a b ≡ ordering_then (queries_cmp must must') (ordering_then (queries_cmp should should') (queries_cmp not_ not'))
  by_parts =
      query_cmp-is a b
      ∙ (λ i. layer_cmp query_cmp (out-Query (is i)) (out-Query (is' i)))
      ∙ (λ i. layer_cmp query_cmp (query.outs-Bool must should not_ i) (query.outs-Bool must' should' not' i))
      ∙ ap (λ o. ordering_then (queries_cmp must must') (ordering_then (queries_cmp should should') o)) (then_Equal (queries_cmp not_ not'))

  module _ (o : Ordering) (here : o ≡ queries_cmp must must') where
    pub must_decide : is_ne o ≡ true → o ≡ query_cmp a b
    must_decide h = first_decides o _ h ∙ ap (λ r. ordering_then r (ordering_then (queries_cmp should should') (queries_cmp not_ not'))) here ∙ sym by_parts

    module _ (tie : is_ne o ≡ false) (p : Ordering) (there : p ≡ queries_cmp should should') where
      past_must : ordering_then p (queries_cmp not_ not') ≡ query_cmp a b
      past_must =
          rest_decides o _ tie
          ∙ (λ i. ordering_then (here i) (ordering_then (there i) (queries_cmp not_ not')))
          ∙ sym by_parts

      pub should_decide : is_ne p ≡ true → p ≡ query_cmp a b
      should_decide h = first_decides p _ h ∙ past_must

      pub not_decide : is_ne p ≡ false → (q : Ordering) → q ≡ queries_cmp not_ not' → q ≡ query_cmp a b
      not_decide h q last = last ∙ rest_decides p _ h ∙ past_must

-- ---- lists from a place on

module _ {A : Type 0} (R : A → A → Ordering) where
  -- the lists from i on compare as the whole lists do
  pub record IsSettledBy (xs ys : List A) (i : ℕ) : Type 0 where
    pub ties : slice_cmp R (drop i xs) (drop i ys) ≡ slice_cmp R xs ys

  next : (xs ys : List A) (i : ℕ) (x y : A) → i < length xs → i < length ys → x ≡ get_or xs i x → y ≡ get_or ys i y
      → ordering_then (R x y) (slice_cmp R (drop (i + 1) xs) (drop (i + 1) ys)) ≡ slice_cmp R (drop i xs) (drop i ys)
  next xs ys i x y h k p q =
      (λ j. ordering_then (R (p j) (q j)) (slice_cmp R (drop (i + 1) xs) (drop (i + 1) ys)))
      ∙ sym (λ j. slice_cmp R (drop_more xs i x h j) (drop_more ys i y k j))

  pub begin : (xs ys : List A) → IsSettledBy xs ys 0
  begin xs ys = record { ties = refl }

  module _ (xs ys : List A) (i : ℕ) (x y : A) (h : i < length xs) (k : i < length ys) (p : x ≡ get_or xs i x) (q : y ≡ get_or ys i y) (o : Ordering) (is : o ≡ R x y) (before : IsSettledBy xs ys i) where
    pub item_decides : is_ne o ≡ true → o ≡ slice_cmp R xs ys
    item_decides e =
        first_decides o _ e
        ∙ ap (λ r. ordering_then r (slice_cmp R (drop (i + 1) xs) (drop (i + 1) ys))) is
        ∙ next xs ys i x y h k p q
        ∙ before.ties

    pub item_ties : is_ne o ≡ false → IsSettledBy xs ys (i + 1)
    item_ties e = record {
      ties = rest_decides o _ e
          ∙ ap (λ r. ordering_then r (slice_cmp R (drop (i + 1) xs) (drop (i + 1) ys))) is
          ∙ next xs ys i x y h k p q
          ∙ before.ties;
    }

  nat_cmp-suc : (m n : ℕ) → nat_cmp m n ≡ nat_cmp (suc m) (suc n)
  nat_cmp-suc m n = grind (arith, nat_tests)

  past_end : (xs ys : List A) (i : ℕ) → i ≡ min (length xs) (length ys) → nat_cmp (length xs) (length ys) ≡ slice_cmp R (drop i xs) (drop i ys)
  past_end [] [] zero e = refl
  past_end [] (y ∷ ys) zero e = sym (nat_cmp_is 0 (suc (length ys)) Less (omega arith))
  past_end (x ∷ xs) [] zero e = sym (nat_cmp_is (suc (length xs)) 0 Greater (omega arith))
  past_end (x ∷ xs) (y ∷ ys) zero e = absurd (omega arith)
  past_end [] ys (suc i) e = absurd (omega arith)
  past_end (x ∷ xs) [] (suc i) e = absurd (omega arith)
  past_end (x ∷ xs) (y ∷ ys) (suc i) e = sym (nat_cmp-suc (length xs) (length ys)) ∙ past_end xs ys i (omega arith)

  pub lengths_decide : (xs ys : List A) (i : ℕ) (o : Ordering) → i ≡ min (length xs) (length ys) → o ≡ nat_cmp (length xs) (length ys) → IsSettledBy xs ys i → o ≡ slice_cmp R xs ys
  lengths_decide xs ys i o e is before = is ∙ past_end xs ys i e ∙ before.ties
