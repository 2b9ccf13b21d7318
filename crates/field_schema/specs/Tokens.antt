-- The tokens of a text.
use Rattle.std.specs.Prelude.{ℕ, List, [], ◌∷◌, Bool, true, false, ◌||◌, nat_le, if◌then◌else◌, filter, map}
use Rattle.std.specs.Str.{str_to_ascii_lowercase}
use Rattle.std.specs.Char.{is_ascii_alphanumeric}

-- an ASCII letter or digit, or a byte of a character past ASCII
abbrev pub is_token_byte : ℕ → Bool
is_token_byte c = is_ascii_alphanumeric c || nat_le 128 c

-- c in front of the first piece
abbrev pub onto : ℕ → List (List ℕ) → List (List ℕ)
onto c [] = (c ∷ []) ∷ []
onto c (piece ∷ pieces) = (c ∷ piece) ∷ pieces

-- the pieces between the bytes that are in no token
abbrev pub pieces : List ℕ → List (List ℕ)
pieces [] = [] ∷ []
pieces (c ∷ cs) = if is_token_byte c then onto c (pieces cs) else [] ∷ pieces cs

abbrev pub is_filled : List ℕ → Bool
is_filled [] = false
is_filled (c ∷ cs) = true

-- the maximal runs of such bytes, with ASCII letters in lower case
abbrev pub tokens : List ℕ → List (List ℕ)
tokens text = map str_to_ascii_lowercase (filter is_filled (pieces text))
