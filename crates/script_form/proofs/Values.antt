-- The value that a text is.
use Rattle.std.proofs.Common.{◌≡◌, ℕ, List, Bool, true, false, cond, Option, None, refl, ap}
use Rattle.std.specs.Str.{IsUtf8, is_utf8}
use Rattle.std.proofs.lemmas.Str.{IsUtf8-from_is_utf8, is_utf8-from_IsUtf8}
use Rattle.serde_json.specs.Data.{Data}
use Rattle.serde_json.specs.Read.{read}
use Rattle.script_form.specs.ReadConfig.{value_in}

pub value_in_text : (text : List ℕ) → IsUtf8 text → value_in text ≡ read text
value_in_text text is = ap (λ (b : Bool). cond b (read text) None) (is_utf8-from_IsUtf8 text is)

where_utf8 : (b : Bool) (o : Option Data) → (b ≡ true → o ≡ None) → cond b o None ≡ None
where_utf8 true o h = h refl
where_utf8 false o h = refl

pub value_in_none : (text : List ℕ) → (IsUtf8 text → read text ≡ None) → value_in text ≡ None
value_in_none text h = where_utf8 (is_utf8 text) (read text) (λ is. h (IsUtf8-from_is_utf8 text is))
