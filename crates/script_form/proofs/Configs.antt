-- The text of a configuration.
use Rattle.std.proofs.Common.{◌≡◌, ℕ, List, [], ◌∷◌, ◌++◌, append_assoc, Bool, true, false, cond, refl, sym, ◌∙◌}
use Rattle.std.specs.List.{join_with_byte}

-- the line feed in front of a line that is not the first
abbrev pub feed : Bool → List ℕ
feed begun = cond begun (10 ∷ []) []

-- a text with lines behind it, which has begun unless they are the first
abbrev pub joined : Bool → List ℕ → List (List ℕ) → List ℕ
joined begun text [] = text
joined begun text (line ∷ others) = text ++ (feed begun ++ join_with_byte 10 (line ∷ others))

pub joined_first : (ls : List (List ℕ)) → joined false [] ls ≡ join_with_byte 10 ls
joined_first [] = refl
joined_first (line ∷ others) = refl

pub joined_more : (begun : Bool) (text line : List ℕ) (others : List (List ℕ)) → joined begun text (line ∷ others) ≡ joined true ((text ++ feed begun) ++ line) others
joined_more begun text line [] = sym (append_assoc text (feed begun) line)
joined_more begun text line (next ∷ others) =
    sym (append_assoc text (feed begun) (line ++ (10 ∷ join_with_byte 10 (next ∷ others))))
    ∙ sym (append_assoc (text ++ feed begun) line (10 ∷ join_with_byte 10 (next ∷ others)))
