-- What a text of parameters says: names and values, in their order.
use Rattle.std.specs.Prelude.{ℕ, List, map, filter, Bool, Option, option_map}
use Rattle.std.specs.List.{find}
use Rattle.std.specs.Str.Lossy.{utf8_lossy}
use Rattle.form_urlencoded.specs.Form.{raw_pairs, decode}
use Rattle.field_schema.specs.Bytes.{bytes_eq}
use Rattle.request_form.specs.declared.params.Param.{Param}

-- the text of a name or a value of a form: a `+` is a space, `%` and two digits are a byte, and a
-- sequence that is no UTF-8 is U+FFFD
abbrev pub form_text : List ℕ → List ℕ
form_text bytes = utf8_lossy (decode bytes)

-- a pair of a form
abbrev pub param_of : List ℕ × List ℕ → Param
param_of pair = record { name = form_text pair.0; value = form_text pair.1 }

-- the pairs of a form
abbrev pub params_of : List ℕ → List Param
params_of text = map param_of (raw_pairs text)

abbrev pub has_name : List ℕ → Param → Bool
has_name name p = bytes_eq p.name name

-- the value of a parameter; of one that stands twice the first counts
abbrev pub value_of : List ℕ → List Param → Option (List ℕ)
value_of name ps = option_map (λ p. p.value) (find (has_name name) ps)

-- the values of a parameter that may stand more than once, in their order
abbrev pub values_of : List ℕ → List Param → List (List ℕ)
values_of name ps = map (λ p. p.value) (filter (has_name name) ps)
