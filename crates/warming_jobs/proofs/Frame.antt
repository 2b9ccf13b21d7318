-- Facts about the lists of what all passes know.
use Rattle.std.proofs.Common.{◌≡◌, ◌≢◌, ◌⊎◌, ℕ, zero, suc, List, [], ◌∷◌, ◌++◌, length, set, sym, refl, ap, subst, inl, inr, ⊎_elim}
use mathlib.Core.Option.{some, some-injective, some-ne-none}
use lib.ListN.{get_elem?}
use Rattle.crossbeam_queue.proofs.Lists.{at_set}

module _ {A : Type 0} where
  -- F holds of each element, with its place
  abbrev pub Each : (ℕ → A → Type 0) → List A → Type 0
  Each F xs = (j : ℕ) (x : A) → get_elem? xs j ≡ some x → F j x

  pub each_set : (F : ℕ → A → Type 0) (xs : List A) (i : ℕ) (a : A) → F i a → ((j : ℕ) (x : A) → j ≢ i → get_elem? xs j ≡ some x → F j x) → Each F (set xs i a)
  each_set F xs i a mine others j x e = ⊎_elim (λ (c : (j ≡ i) × (a ≡ x)). subst (λ (y : ℕ × A). F y.0 y.1) (λ t. (sym c.0 t, c.1 t)) mine)
      (λ (c : (j ≢ i) × (get_elem? xs j ≡ some x)). others j x c.0 c.1) (at_set xs i j a x e)

  at_end : (xs : List A) (a : A) (j : ℕ) (x : A) → get_elem? (xs ++ a ∷ []) j ≡ some x → (get_elem? xs j ≡ some x) ⊎ ((j ≡ length xs) × (a ≡ x))
  at_end [] a zero x e = inr (refl, some-injective a x e)
  at_end [] a (suc j) x e = absurd (some-ne-none x (sym e))
  at_end (y ∷ ys) a zero x e = inl e
  at_end (y ∷ ys) a (suc j) x e = ⊎_elim (λ s. inl s) (λ s. inr (ap suc s.0, s.1)) (at_end ys a j x e)

  pub each_snoc : (F : ℕ → A → Type 0) (xs : List A) (a : A) → Each F xs → F (length xs) a → Each F (xs ++ a ∷ [])
  each_snoc F xs a all last j x e = ⊎_elim (λ c. all j x c) (λ (c : (j ≡ length xs) × (a ≡ x)). subst (λ (y : ℕ × A). F y.0 y.1) (λ t. (sym c.0 t, c.1 t)) last) (at_end xs a j x e)

  pub each_none : (F : ℕ → A → Type 0) → Each F []
  each_none F j x e = absurd (some-ne-none x (sym e))
