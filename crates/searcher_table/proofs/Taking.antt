-- What a seat has out, and what an exchange leaves it.
use Rattle.std.proofs.Common.{◌≡◌, ℕ, List, [], ◌∷◌, sym, ap, ◌∙◌}
use Rattle.atomic_table.specs.Table.{Me, rest}
use Rattle.searcher_table.specs.declared.board.Cell.{Cell}
use Rattle.searcher_table.specs.declared.board.Cell.TheVariants.{Full}

module _ {A : Type 0} where
  abbrev first_or : A → List (ℕ × A) → A
  first_or a [] = a
  first_or a (x ∷ xs) = x.1

  pub same_out : (xs ys zs : List (ℕ × A)) (k j : ℕ) (a b : A) → xs ≡ (k, a) ∷ ys → xs ≡ (j, b) ∷ zs → a ≡ b
  same_out xs ys zs k j a b p q = ap (first_or a) (sym p ∙ q)

  pub out_is : {V : Type 0} (last new : Me A V) (before : List (ℕ × A)) (k j : ℕ) (a b : A) → new.1 ≡ (k, a) ∷ before → before ≡ [] → last ≡ (new.0, (j, b) ∷ rest new.1) → last ≡ (new.0, (j, b) ∷ [])
  out_is last new before k j a b out bare is = is ∙ (λ i. (new.0, (j, b) ∷ (ap rest out ∙ bare) i))

module _ {D U : Type 0} where
  abbrev door_or : D → Cell D U → D
  door_or d (Full e) = e
  door_or d _ = d

  pub same_door : (d e : D) → ◌≡◌ {A = Cell D U} (Full d) (Full e) → d ≡ e
  same_door d e p = ap (door_or d) p
