-- Decimal texts.
use Rattle.std.proofs.Common.{◌≡◌, ℕ, ◌^◌, ◌<◌, ◌-◌, ◌++◌, ◌&&◌, Bool, true, false, List, [], ◌∷◌, length, take, drop, leb, None, Result, Ok, Err, refl, sym, ap, ◌∙◌, subst, arith, codes, nat_eq}
use Rattle.std.specs.Char.{is_ascii_digit}
use Rattle.std.specs.Cmp.Lexicographic.{bytes_decides}
use Rattle.std.specs.List.{list_all, ends_with}
use Rattle.std.specs.Result.{OkIff, result_ok}
use Rattle.std.specs.Str.{all_ascii_digits}
use Rattle.std.specs.Str.Parse.{IsNumeral, ParsesUnsigned, digits_value, without_leading_plus}
use Rattle.std.proofs.lemmas.Bool.{false_from_ne_true}
use Rattle.std.proofs.lemmas.Bool.Decides.{nat_tests}
use Rattle.std.proofs.lemmas.List.{take-append-drop}
use Rattle.std.proofs.lemmas.Str.Parse.{IsNumeralModel, numerals_by_value, tells_all_ascii_digits}
use Rattle.script_form.specs.Decimals.{are_digits, decimal_within, is_decimal}

pub all_digits : (text : List ℕ) → list_all is_ascii_digit text ≡ all_ascii_digits text
all_digits [] = refl
all_digits (c ∷ cs) = ap (λ (b : Bool). is_ascii_digit c && b) (all_digits cs)

-- digits begin with no plus
digits_stand : (text : List ℕ) → all_ascii_digits text ≡ true → without_leading_plus text ≡ text
digits_stand [] h = refl
digits_stand (c ∷ cs) h = grind (arith, nat_tests)

numerals : IsNumeralModel (λ ds. all_ascii_digits ds ≡ true) (digits_value 10)
numerals = numerals_by_value _ tells_all_ascii_digits

digits_are : (text : List ℕ) → are_digits text ≡ true → (0 < length text) × (all_ascii_digits text ≡ true)
digits_are text h = grind (arith, nat_tests)

decimal_are : (text : List ℕ) → is_decimal text ≡ true → are_digits text ≡ true
decimal_are text h = grind (arith, nat_tests)

-- what is no number of 32 bits is none that a limit of 32 bits allows
too_great : (text : List ℕ) (low high : ℕ) → is_decimal text ≡ true → high < 2 ^ 32
    → (IsNumeral 10 (without_leading_plus text) × (digits_value 10 (without_leading_plus text) < 2 ^ 32) → ⊥) → None ≡ decimal_within low high text
too_great text low high is fits never =
    let d = digits_are text (decimal_are text is) in
    let stands : without_leading_plus text ≡ text = digits_stand text d.1 in
    let numeral : IsNumeral 10 text = (d.0, numerals.to text d.1) in
    let great : digits_value 10 text < 2 ^ 32 → ⊥ =
    λ h. never (subst (λ t. IsNumeral 10 t × (digits_value 10 t < 2 ^ 32)) (sym stands) (numeral, h)) in
    let past : leb (digits_value 10 text) high ≡ false = grind (arith, nat_tests) in
    grind (arith, past)

parse_none : {E : Type 0} (r : Result ℕ E) (P : Type 0) (v : ℕ) → OkIff r P v → None ≡ result_ok r → P → ⊥
parse_none (Ok x) P v h is = absurd (cc)
parse_none (Err e) P v h is = h

-- what `parse` does not read
pub unread : {E : Type 0} (r : Result ℕ E) (text : List ℕ) (low high : ℕ) → is_decimal text ≡ true → high < 2 ^ 32 → ParsesUnsigned 32 10 text r → None ≡ result_ok r
    → None ≡ decimal_within low high text
unread r text low high is fits h none = too_great text low high is fits (parse_none r _ _ h none)

-- a text that is nothing in front of `%` does not end with it
pub no_percent : (text : List ℕ) → ((front : List ℕ) → text ≡ front ++ 37 ∷ [] → ⊥) → ends_with nat_eq text (codes "%") ≡ false
no_percent text never =
    false_from_ne_true (ends_with nat_eq text (codes "%"))
    (λ h. never (take (length text - 1) text) (sym (take-append-drop (length text - 1) text) ∙ ap (λ (t : List ℕ). take (length text - 1) text ++ t) (sym ((bytes_decides (codes "%") (drop (length text - 1) text)).0 h))))
