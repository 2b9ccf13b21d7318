-- A text that reads to a key in a field is read from the key's own text.
use Rattle.std.proofs.Common.{◌≡◌, ◌<◌, ◌≤◌, ◌^◌, ◌∷◌, [], ℕ, suc, List, Bool, true, false, cond, Option, None, Some, Result, Ok, Err, ℤ, pos, negsuc, length, refl, ap, sym, subst, ◌∙◌, arith, ⊎_elim, encode_utf8, Decides, get_or}
use Rattle.std.specs.Prelude.{◌&&◌, nat_lt, unwrap_or, is_none, map}
use Rattle.std.specs.Result.{OkIff, result_ok}
use Rattle.std.specs.Char.{to_ascii_lowercase}
use Rattle.std.specs.Fmt.{signed_decimal}
use Rattle.std.specs.Str.{chars, IsUtf8, all_ascii_digits, str_to_ascii_lowercase}
use Rattle.std.specs.Str.Parse.{ParsesSigned, without_leading_sign, signed_digits_value, digits_value}
use mir.Syntax.{w64}
use lib.Utf8.{encodes, scalars, scalar}
use lib.Signed.{mag}
use Rattle.std.proofs.lemmas.Bool.{and_parts, and_from, cases_lt, ltb-true, true≢false, false≢true}
use Rattle.std.proofs.lemmas.Bool.Decides.{Decides-ltb, Decides-and, nat_tests}
use Rattle.std.proofs.lemmas.Fmt.{IsAscii-signed, parse-signed_decimal}
use Rattle.std.proofs.lemmas.Str.{IsUtf8-from_ascii, encode_ascii, encodes-chars, scalars-chars, inside_one}
use Rattle.std.proofs.lemmas.List.{append-nil, map-append}
use Rattle.std.proofs.lemmas.Str.Ascii.{IsAscii-cons, IsAscii-nil, lowercase-lowercase, lowercase_ascii}
use Rattle.std.proofs.lemmas.Str.Parse.{IsNumeralModel, numerals_by_value, tells_all_ascii_digits}
use Rattle.field_schema.specs.declared.field.Field.{Field}
use Rattle.field_schema.specs.declared.field.FieldType.{FieldType}
use Rattle.field_schema.specs.declared.field.FieldType.TheVariants as kind
use Rattle.field_schema.specs.declared.key.Key.TheVariants as key
use Rattle.field_schema.specs.ValueTexts.{is_i64, long_text, begins_true, truth_text}
use Rattle.field_schema.proofs.Numbers.{is_i64-Decides, parse_is_long_text}
use Rattle.query_text.specs.Readings.{kind_at, key_of}
use Rattle.query_text.specs.Faults.{is_long, is_no_number}
use Rattle.query_text.specs.Printing.{key_text}
use Rattle.query_text.specs.PrintLaws.{IsKey}
use Rattle.query_text.proofs.TokenTexts.{lower_scalar}

-- ---- lower case

high_bytes : (c : ℕ) → 128 ≤ c → (k : ℕ) → k < length (encode_utf8 c) → 128 ≤ get_or (encode_utf8 c) k 0
high_bytes c high k within =
    ⊎_elim (λ lower. let same : c ≡ get_or (encode_utf8 c) k 0 = inside_one c [] (encode_utf8 c) k (sym (append-nil (encode_utf8 c))) within lower in absurd (omega arith)) (λ m. m)
    (cases_lt (get_or (encode_utf8 c) k 0) 128)

lower_high : (bs : List ℕ) → ((k : ℕ) → k < length bs → 128 ≤ get_or bs k 0) → str_to_ascii_lowercase bs ≡ bs
lower_high [] h = refl
lower_high (b ∷ bs) h =
    let here : 128 ≤ b = h 0 (omega arith) in
    let same : to_ascii_lowercase b ≡ b = grind (arith, nat_tests) in
    rw same (ap (λ (cs : List ℕ). b ∷ cs) (lower_high bs (λ k l. h (suc k) (omega arith))))

lower_char : (c : ℕ) → str_to_ascii_lowercase (encode_utf8 c) ≡ encode_utf8 (to_ascii_lowercase c)
lower_char c =
    ⊎_elim (λ l. rw (encode_ascii c l, encode_ascii (to_ascii_lowercase c) (lowercase_ascii c l)) refl)
    (λ m. let same : to_ascii_lowercase c ≡ c = grind (arith, nat_tests) in rw same (lower_high (encode_utf8 c) (high_bytes c m))) (cases_lt c 128)

lower_encodes : (cs : List ℕ) → str_to_ascii_lowercase (encodes cs) ≡ encodes (map to_ascii_lowercase cs)
lower_encodes [] = refl
lower_encodes (c ∷ cs) = map-append to_ascii_lowercase (encode_utf8 c) (encodes cs) ∙ rw (lower_char c, lower_encodes cs) refl

lower_scalars : (cs : List ℕ) → scalars cs ≡ true → scalars (map to_ascii_lowercase cs) ≡ true
lower_scalars [] h = refl
lower_scalars (c ∷ cs) h =
    let p : (scalar c ≡ true) × (scalars cs ≡ true) = and_parts _ _ h in
    and_from _ _ (lower_scalar c p.0) (lower_scalars cs p.1)

pub lower_text : (text : List ℕ) → IsUtf8 text → IsUtf8 (str_to_ascii_lowercase text)
lower_text text h = (
  map to_ascii_lowercase (chars text),
  (lower_scalars (chars text) (scalars-chars text h), sym (lower_encodes (chars text)) ∙ ap str_to_ascii_lowercase (encodes-chars text h)),
)

pub lower_twice : (text : List ℕ) → str_to_ascii_lowercase (str_to_ascii_lowercase text) ≡ str_to_ascii_lowercase text
lower_twice [] = refl
lower_twice (c ∷ text) = rw (lowercase-lowercase c) (ap (λ (bs : List ℕ). to_ascii_lowercase c ∷ bs) (lower_twice text))

-- ---- numbers

numerals : IsNumeralModel (λ ds. all_ascii_digits ds ≡ true) (digits_value 10)
numerals = numerals_by_value _ tells_all_ascii_digits

abbrev is_number : List ℕ → Bool
is_number text = nat_lt 0 (length (without_leading_sign text)) && all_ascii_digits (without_leading_sign text) && is_i64 (signed_digits_value 10 text)

abbrev answer : Bool → ℤ → Result ℤ (Unit {0})
answer true v = Ok v
answer false v = Err tt

abbrev read : List ℕ → Result ℤ (Unit {0})
read text = answer (is_number text) (signed_digits_value 10 text)

ok_from : (b : Bool) (P : Type 0) (v : ℤ) → Decides b P → OkIff (answer b v) P v
ok_from true P v d = (d.0 refl, refl)
ok_from false P v d = λ p. absurd (false≢true (d.1 p))

number_reads : (text : List ℕ) → ParsesSigned w64 10 text (read text)
number_reads text =
    ok_from _ _ _
    (Decides-and _ _ (Decides-and _ _ (Decides-ltb 0 (length (without_leading_sign text))) (numerals.to (without_leading_sign text), numerals.from (without_leading_sign text)))
    (is_i64-Decides (signed_digits_value 10 text)))

small : (z : ℤ) → is_i64 z ≡ true → mag z < 2 ^ 63
small (pos n) h = ltb-true n (2 ^ 63) h
small (negsuc n) h = ltb-true n (2 ^ 63) h

-- a number's own text writes it
long_signed : (z : ℤ) → is_i64 z ≡ true → long_text (signed_decimal z) ≡ Some z
long_signed z h =
    let e : read (signed_decimal z) ≡ Ok z =
    parse-signed_decimal w64 z (signed_decimal z) (read (signed_decimal z)) ((is_i64-Decides z).0 h) (small z h) refl (number_reads (signed_decimal z)) in
    sym (parse_is_long_text (read (signed_decimal z)) (signed_decimal z) (number_reads (signed_decimal z))) ∙ ap result_ok e

in_range : (b : Bool) (v z : ℤ) → (b ≡ true → is_i64 v ≡ true) → cond b (Some v) None ≡ Some z → is_i64 z ≡ true
in_range true v z k h = subst (λ (x : ℤ). is_i64 x ≡ true) (ap (λ (o : Option ℤ). unwrap_or o v) h) (k refl)
in_range false v z k h = absurd (true≢false (ap is_none h))

long_range : (text : List ℕ) (z : ℤ) → long_text text ≡ Some z → is_i64 z ≡ true
long_range text z h = in_range (is_number text) (signed_digits_value 10 text) z (λ e. (and_parts _ _ e).1) h

long_value : (text : List ℕ) (o : Option ℤ) → long_text text ≡ o → is_none o ≡ false → is_i64 (unwrap_or o (pos 0)) ≡ true
long_value text None e n = absurd (true≢false n)
long_value text (Some z) e n = long_range text z e

-- ---- keys

truth_utf8 : (b : Bool) → IsUtf8 (truth_text b)
truth_utf8 true = IsUtf8-from_ascii (116 ∷ 114 ∷ 117 ∷ 101 ∷ []) (IsAscii-cons 116 (114 ∷ 117 ∷ 101 ∷ []) (omega arith) (IsAscii-cons 114 (117 ∷ 101 ∷ []) (omega arith) (IsAscii-cons 117 (101 ∷ []) (omega arith) (IsAscii-cons 101 [] (omega arith) IsAscii-nil))))
truth_utf8 false = IsUtf8-from_ascii (102 ∷ 97 ∷ 108 ∷ 115 ∷ 101 ∷ []) (IsAscii-cons 102 (97 ∷ 108 ∷ 115 ∷ 101 ∷ []) (omega arith) (IsAscii-cons 97 (108 ∷ 115 ∷ 101 ∷ []) (omega arith) (IsAscii-cons 108 (115 ∷ 101 ∷ []) (omega arith) (IsAscii-cons 115 (101 ∷ []) (omega arith) (IsAscii-cons 101 [] (omega arith) IsAscii-nil)))))

truth_same : (b : Bool) → begins_true (truth_text b) ≡ b
truth_same true = refl
truth_same false = refl

-- a text that a value of the type can have
abbrev pub IsGood : FieldType → List ℕ → Type 0
IsGood k text = (is_long (Some k) && is_no_number (Some text)) ≡ false

key_utf8 : (k : FieldType) (text : List ℕ) → IsUtf8 text → IsGood k text → IsUtf8 (key_text (key_of k text))
key_utf8 kind.Str text u h = u
key_utf8 kind.Long text u h = IsUtf8-from_ascii _ (IsAscii-signed (unwrap_or (long_text text) (pos 0)) (small (unwrap_or (long_text text) (pos 0)) (long_value text (long_text text) refl h)))
key_utf8 kind.Bool text u h = truth_utf8 (begins_true text)
key_utf8 kind.Text text u h = lower_text text u

key_good : (k : FieldType) (text : List ℕ) → IsGood k text → IsGood k (key_text (key_of k text))
key_good kind.Str text h = refl
key_good kind.Long text h = rw (long_signed (unwrap_or (long_text text) (pos 0)) (long_value text (long_text text) refl h)) refl
key_good kind.Bool text h = refl
key_good kind.Text text h = refl

key_same : (k : FieldType) (text : List ℕ) → IsGood k text → key_of k (key_text (key_of k text)) ≡ key_of k text
key_same kind.Str text h = refl
key_same kind.Long text h = rw (long_signed (unwrap_or (long_text text) (pos 0)) (long_value text (long_text text) refl h)) refl
key_same kind.Bool text h = ap key.Bool (truth_same (begins_true text))
key_same kind.Text text h = ap key.Token (lower_twice text)

pub is_key : (fields : List Field) (f : ℕ) (text : List ℕ) → IsUtf8 text → IsGood (kind_at fields f) text → IsKey fields f (key_of (kind_at fields f) text)
is_key fields f text u h = record {
  value = record { utf8 = key_utf8 (kind_at fields f) text u h; number = key_good (kind_at fields f) text h };
  key = key_same (kind_at fields f) text h;
}
