-- Local parameters: `{!`, items separated by spaces, and `}`.
use Rattle.std.specs.Prelude.{ℕ, zero, suc, ◌^◌, List, length, Bool, true, false, ◌&&◌, nat_lt, if◌then◌else◌, ◌==◌, ◌+◌, Option, Some, None, option_map, unwrap_or, Result, Ok, Err, codes, take, drop, ℤ, pos, negsuc}
use Rattle.std.specs.Option.{option_map_or}
use Rattle.std.specs.Str.{all_ascii_digits}
use Rattle.std.specs.Str.Parse.{without_leading_sign, signed_digits_value}
use Rattle.field_schema.specs.Bytes.{bytes_eq}
use Rattle.query_lexemes.specs.declared.letter.Letter.{Letter}
use Rattle.query_lexemes.specs.declared.letter.Class.TheVariants as class
use Rattle.query_lexemes.specs.declared.local.Local.{Local}
use Rattle.query_lexemes.specs.declared.local.Items.{Items}
use Rattle.query_lexemes.specs.Letters.{stands, run, past, at_front, text_of, has_escape}
use Rattle.query_lexemes.specs.Lexemes.{place, tail}

-- the number lies in 32 signed bits
abbrev pub is_i32 : ℤ → Bool
is_i32 (pos n) = nat_lt n (2 ^ 31)
is_i32 (negsuc n) = nat_lt n (2 ^ 31)

-- an optional sign and digits, within 32 signed bits
abbrev pub int_text : List ℕ → Option ℤ
int_text text =
    if nat_lt 0 (length (without_leading_sign text)) && all_ascii_digits (without_leading_sign text) && is_i32 (signed_digits_value 10 text)
    then Some (signed_digits_value 10 text) else None

-- the value is kept, or else this one is
abbrev pub first : {A : Type 0} → Option A → A → Option A
first o x = Some (unwrap_or o x)

abbrev pub with_cached : Items → Bool → Items
with_cached items b = record { cached = first items.cached b; cost = items.cost }

abbrev pub with_cost : Items → ℤ → Items
with_cost items z = record { cached = items.cached; cost = first items.cost z }

-- `cost=` and a number
unfoldable pub with_number : Items → List Letter → Option Items
with_number items w =
    if nat_lt (length w) 5 then None else
    (if bytes_eq (text_of (take 5 w)) (codes "cost=") then option_map (with_cost items) (int_text (text_of (drop 5 w))) else None)

-- the items with one more, where it is one
unfoldable pub with_item : Items → List Letter → Option Items
with_item items w =
    if has_escape w then None else
    (if bytes_eq (text_of w) (codes "cache=true") then Some (with_cached items true) else
    (if bytes_eq (text_of w) (codes "cache=false") then Some (with_cached items false) else with_number items w))

-- no item yet
abbrev pub no_items : Items
no_items = record { cached = None; cost = None }

-- what the items say
abbrev pub local_of : Items → Local
local_of items = record { cached = unwrap_or items.cached true; cost = unwrap_or items.cost (pos 0) }

-- the local parameters of at most n items behind those before, and what stands behind `}`, or the place of the fault
unfoldable pub local_items : ℕ → ℕ → Items → List Letter → Result (Local × List Letter) ℕ
local_items zero end items ls = Err end
local_items (suc n) end items ls =
    if at_front (stands 125) (past class.Space ls) then Ok (local_of items, tail (past class.Space ls)) else
    (if length (past class.Space ls) == 0 then Err end else
    option_map_or (λ more. local_items n end more (past class.Item (past class.Space ls)))
    (with_item items (run class.Item (past class.Space ls))) (Err (place end (past class.Space ls))))

-- those of the letters behind `{!`
unfoldable pub local : ℕ → List Letter → Result (Local × List Letter) ℕ
local end ls = local_items (length ls + 1) end no_items ls

-- the letters behind `{!`, where local parameters begin the text
abbrev pub behind_mark : List Letter → Option (List Letter)
behind_mark ls = if at_front (stands 123) ls && at_front (stands 33) (tail ls) then Some (tail (tail ls)) else None
