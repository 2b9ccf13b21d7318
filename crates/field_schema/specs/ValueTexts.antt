-- What texts and truth values are in fields of other types.
use Rattle.std.specs.Prelude.{ℕ, ◌^◌, List, length, Bool, true, false, ◌&&◌, ◌||◌, ◌==◌, nat_lt, if◌then◌else◌, Option, Some, None, codes, slice_index, ℤ, pos, negsuc}
use Rattle.std.specs.Str.{all_ascii_digits}
use Rattle.std.specs.Str.Parse.{without_leading_sign, signed_digits_value}

-- the number lies in 64 signed bits
abbrev pub is_i64 : ℤ → Bool
is_i64 (pos n) = nat_lt n (2 ^ 63)
is_i64 (negsuc n) = nat_lt n (2 ^ 63)

-- an optional sign and digits, zeros before it allowed, within 64 signed bits
abbrev pub long_text : List ℕ → Option ℤ
long_text text =
    if nat_lt 0 (length (without_leading_sign text)) && all_ascii_digits (without_leading_sign text) && is_i64 (signed_digits_value 10 text)
    then Some (signed_digits_value 10 text) else None

-- a truth value's text: true where it begins with `1`, `t` or `T`
abbrev pub begins_true : List ℕ → Bool
begins_true text = slice_index text 0 == 49 || (slice_index text 0 == 116 || slice_index text 0 == 84)

abbrev pub truth_text : Bool → List ℕ
truth_text true = codes "true"
truth_text false = codes "false"
