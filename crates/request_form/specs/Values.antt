-- What the values of parameters stand for.
use Rattle.std.specs.Prelude.{ℕ, List, [], ◌∷◌, length, map, filter, Bool, true, false, ◌&&◌, ◌||◌, ◌==◌, nat_le, if◌then◌else◌, Option, Some, None, ok_or, Result, Ok, codes}
use Rattle.std.specs.List.{flat_map, list_any, slice_split}
use Rattle.std.specs.Str.{all_ascii_digits, chars, encode_utf8_all}
use Rattle.std.specs.Str.Parse.{digits_value}
use Rattle.field_schema.specs.Bytes.{bytes_eq}
use Rattle.field_schema.specs.Tokens.{is_filled}
use Rattle.field_schema.specs.declared.field.FieldList.{FieldList}
use Rattle.field_schema.specs.declared.field.FieldList.TheVariants as shown
use Rattle.query_lexemes.specs.Letters.{is_white}
use Rattle.query_text.specs.declared.op.Op.{Op}
use Rattle.query_text.specs.declared.op.Op.TheVariants as op
use Rattle.request_form.specs.declared.fault.RequestFault.{RequestFault}
use Rattle.request_form.specs.declared.fault.RequestFault.TheVariants as fault
use Rattle.request_form.specs.declared.params.Param.{Param}
use Rattle.request_form.specs.Params.{value_of, values_of}

-- what a value reads to, or what is meant where the parameter is missing; else the fault
abbrev pub read_or : {A : Type 0} → A → (List ℕ → Option A) → RequestFault → Option (List ℕ)
    → Result A RequestFault
read_or missing reads told None = Ok missing
read_or missing reads told (Some value) = ok_or (reads value) told

-- one of these texts
abbrev pub is_among : List (List ℕ) → List ℕ → Bool
is_among texts value = list_any (bytes_eq value) texts

-- ---- counts

-- one to ten digits, of a number up to 2,147,483,647
abbrev pub is_count : List ℕ → Bool
is_count value =
    nat_le 1 (length value) && nat_le (length value) 10 && all_ascii_digits value
    && nat_le (digits_value 10 value) 2147483647

abbrev pub count_in : List ℕ → Option ℕ
count_in value = if is_count value then Some (digits_value 10 value) else None

-- the count that a parameter says
abbrev pub count_of : List ℕ → ℕ → List Param → Result ℕ RequestFault
count_of name missing ps = read_or missing count_in (fault.BadCount name) (value_of name ps)

-- ---- flags

abbrev pub is_yes : List ℕ → Bool
is_yes value = is_among (codes "true" ∷ codes "on" ∷ codes "yes" ∷ []) value

abbrev pub is_no : List ℕ → Bool
is_no value = is_among (codes "false" ∷ codes "off" ∷ codes "no" ∷ []) value

abbrev pub flag_in : List ℕ → Option Bool
flag_in value = if is_yes value then Some true else (if is_no value then Some false else None)

-- the flag that a parameter says
abbrev pub flag_of : List ℕ → Bool → List Param → Result Bool RequestFault
flag_of name missing ps = read_or missing flag_in (fault.BadFlag name) (value_of name ps)

-- ---- the operator

abbrev pub op_in : List ℕ → Option Op
op_in value =
    if is_among (codes "OR" ∷ codes "or" ∷ []) value then Some op.Or else
    (if is_among (codes "AND" ∷ codes "and" ∷ []) value then Some op.And else None)

-- what joins clauses that have no conjunction
abbrev pub op_of : List Param → Result Op RequestFault
op_of ps = read_or op.Or op_in (fault.BadFlag (codes "q.op")) (value_of (codes "q.op") ps)

-- ---- fields

-- a comma or white space
abbrev pub is_separator : ℕ → Bool
is_separator c = c == 44 || is_white c

-- the runs of characters between commas and white space
abbrev pub names_in : List ℕ → List (List ℕ)
names_in value = filter is_filled (map encode_utf8_all (slice_split is_separator (chars value)))

-- no name, or `*` among them, stands for all stored fields
abbrev pub shown_by : List (List ℕ) → FieldList
shown_by names =
    if length names == 0 || list_any (λ name. bytes_eq name (codes "*")) names then shown.All
    else shown.Names names

-- the fields that a reply shows: the values of `fl` are one list
abbrev pub fields_of : List Param → FieldList
fields_of ps = shown_by (flat_map names_in (values_of (codes "fl") ps))
