-- Names of fields.
use Rattle.std.specs.Prelude.{ℕ, List, [], ◌∷◌, length, Bool, false, not, ◌&&◌, ◌||◌, ◌==◌, nat_le, codes}
use Rattle.std.specs.Char.{is_ascii_alphabetic, is_ascii_alphanumeric}
use Rattle.std.specs.List.{list_all, list_any}
use Rattle.field_schema.specs.Bytes.{bytes_eq}

-- a letter, a digit or `_`
abbrev pub is_name_byte : ℕ → Bool
is_name_byte c = is_ascii_alphanumeric c || c == 95

abbrev pub begins_name : List ℕ → Bool
begins_name [] = false
begins_name (c ∷ cs) = is_ascii_alphabetic c || c == 95

-- names that mean something else in a query or a sort
abbrev pub reserved_names : List (List ℕ)
reserved_names = codes "score" ∷ codes "_docid_" ∷ codes "AND" ∷ codes "OR" ∷ codes "NOT" ∷ codes "TO" ∷ []

-- 1 to 64 letters, digits and `_`, not beginning with a digit, and not reserved
abbrev pub is_field_name : List ℕ → Bool
is_field_name name = begins_name name && nat_le (length name) 64 && list_all is_name_byte name && not (list_any (bytes_eq name) reserved_names)
