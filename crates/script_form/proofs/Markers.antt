-- The marker line among the others.
use Rattle.std.proofs.Common.{◌≡◌, ℕ, suc, ◌+◌, Bool, true, false, List, [], ◌∷◌, take, drop, ap, arith}
use Rattle.std.specs.List.{list_any, before_first, after_first, position_or_len}

-- the first element passes
pub any_here : {X : Type 0} (p : X → Bool) (x : X) (xs : List X) → p x ≡ true → list_any p (x ∷ xs) ≡ true
any_here p x xs is = simp is

pub any_later : {X : Type 0} (p : X → Bool) (x : X) (xs : List X) → p x ≡ false → list_any p (x ∷ xs) ≡ list_any p xs
any_later p x xs is = simp is

pub after_here : {X : Type 0} (p : X → Bool) (x : X) (xs : List X) → p x ≡ true → after_first p (x ∷ xs) ≡ xs
after_here p x xs is = simp is

pub after_later : {X : Type 0} (p : X → Bool) (x : X) (xs : List X) → p x ≡ false → after_first p (x ∷ xs) ≡ after_first p xs
after_later p x xs is =
    let place : position_or_len p (x ∷ xs) + 1 ≡ suc (position_or_len p xs + 1) = simp is (omega arith) in
    ap (λ (n : ℕ). drop n (x ∷ xs)) place

pub before_here : {X : Type 0} (p : X → Bool) (x : X) (xs : List X) → p x ≡ true → before_first p (x ∷ xs) ≡ []
before_here p x xs is = simp is

pub before_later : {X : Type 0} (p : X → Bool) (x : X) (xs : List X) → p x ≡ false → before_first p (x ∷ xs) ≡ x ∷ before_first p xs
before_later p x xs is =
    let place : position_or_len p (x ∷ xs) ≡ suc (position_or_len p xs) = simp is (omega arith) in
    ap (λ (n : ℕ). take n (x ∷ xs)) place
