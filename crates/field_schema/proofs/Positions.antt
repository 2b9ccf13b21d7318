-- The first place at which a test passes.
use Rattle.std.proofs.Common.{◌≡◌, ℕ, ◌<◌, Bool, true, false, ltb, lt-ltb, List, [], ◌∷◌, length, get_or, Some, None, position, refl, arith}
use Rattle.std.specs.List.{position_or_len}
use Rattle.std.proofs.lemmas.List.Sums.{position_or_len_is}
use Rattle.std.proofs.lemmas.Bool.Decides.{nat_tests}

-- no element before the place passes
pub record NoneBefore {X : Type 0} (p : X → Bool) (xs : List X) (i : ℕ) : Type 0 where
  pub fails : (k : ℕ) (d : X) → k < i → p (get_or xs k d) ≡ false

module _ {X : Type 0} (p : X → Bool) where
  pub position_at : (xs : List X) (i : ℕ) (d : X) → i < length xs → NoneBefore p xs i → p (get_or xs i d) ≡ true → Some i ≡ position p xs
  position_at xs i d within before here =
      let place : position_or_len p xs ≡ i = position_or_len_is p xs i d (omega arith) (λ k l. before.fails k d l) (λ _. here) in
      let inside : ltb i (length xs) ≡ true = lt-ltb i (length xs) within in
      rw (place, inside) refl

  pub position_nowhere : (xs : List X) → NoneBefore p xs (length xs) → None ≡ position p xs
  position_nowhere [] before = refl
  position_nowhere (x ∷ xs) before =
      let n : ℕ = length (x ∷ xs) in
      let place : position_or_len p (x ∷ xs) ≡ length (x ∷ xs) = position_or_len_is p (x ∷ xs) (length (x ∷ xs)) x (omega arith) (λ k l. before.fails k x l) (λ l. absurd (omega arith)) in
      rw (place, ltb_itself (length (x ∷ xs))) refl
    where
      ltb_itself : (n : ℕ) → ltb n n ≡ false
      ltb_itself n = grind (arith, nat_tests)
