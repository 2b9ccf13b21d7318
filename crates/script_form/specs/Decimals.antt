-- Numbers as decimal texts.
use Rattle.std.specs.Prelude.{ℕ, List, length, slice_index, Bool, not, ◌&&◌, ◌||◌, ◌==◌, nat_lt, nat_le, if◌then◌else◌, Option, Some, None}
use Rattle.std.specs.Str.{all_ascii_digits}
use Rattle.std.specs.Str.Parse.{digits_value}

-- one or more digits
abbrev pub are_digits : List ℕ → Bool
are_digits text = nat_lt 0 (length text) && all_ascii_digits text

-- digits, of which the first is a zero only where it stands alone
abbrev pub is_decimal : List ℕ → Bool
is_decimal text = are_digits text && (length text == 1 || not (slice_index text 0 == 48))

-- the number that a text writes without a leading zero, where it is one from low to high
abbrev pub decimal_within : ℕ → ℕ → List ℕ → Option ℕ
decimal_within low high text =
    if is_decimal text && (nat_le low (digits_value 10 text) && nat_le (digits_value 10 text) high) then Some (digits_value 10 text) else None
