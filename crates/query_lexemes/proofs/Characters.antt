-- Characters of a text that is gone over to its end.
use Rattle.std.proofs.Common.{◌≡◌, [], ◌∷◌, ℕ, List, length, ap, ◌∙◌, arith, refl}
use Rattle.std.specs.Str.{chars}
use Rattle.std.proofs.lemmas.Str.{chars-nil}

nil : (xs : List ℕ) → length xs ≡ 0 → xs ≡ []
nil [] e = refl
nil (x ∷ xs) e = absurd (omega arith)

pub nothing_left : (rest : List ℕ) → length rest ≡ 0 → chars rest ≡ []
nothing_left rest e = ap chars (nil rest e) ∙ chars-nil
