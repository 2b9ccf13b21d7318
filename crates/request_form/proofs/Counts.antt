-- Counts that are too great for 32 bits.
use Rattle.std.proofs.Common.{◌≡◌, ℕ, ◌^◌, ◌<◌, ◌&&◌, Bool, true, false, cond, List, [], ◌∷◌, length, leb, Some, None, Result, Ok, Err, refl, sym, ap, ◌∙◌, subst, arith}
use Rattle.std.specs.Char.{is_ascii_digit}
use Rattle.std.specs.List.{list_all}
use Rattle.std.specs.Result.{OkIff, result_ok}
use Rattle.std.specs.Str.{all_ascii_digits}
use Rattle.std.specs.Str.Parse.{IsNumeral, ParsesUnsigned, digits_value, without_leading_plus}
use Rattle.std.proofs.lemmas.Bool.Decides.{nat_tests}
use Rattle.std.proofs.lemmas.Str.Parse.{IsNumeralModel, numerals_by_value, tells_all_ascii_digits}
use Rattle.request_form.specs.Values.{count_in}

pub all_digits : (text : List ℕ) → list_all is_ascii_digit text ≡ all_ascii_digits text
all_digits [] = refl
all_digits (c ∷ cs) = ap (λ (b : Bool). is_ascii_digit c && b) (all_digits cs)

-- digits begin with no plus
digits_stand : (text : List ℕ) → all_ascii_digits text ≡ true → without_leading_plus text ≡ text
digits_stand [] h = refl
digits_stand (c ∷ cs) h = grind (arith, nat_tests)

numerals : IsNumeralModel (λ ds. all_ascii_digits ds ≡ true) (digits_value 10)
numerals = numerals_by_value _ tells_all_ascii_digits

parse_none : {E : Type 0} (r : Result ℕ E) (P : Type 0) (v : ℕ) → OkIff r P v → None ≡ result_ok r → P → ⊥
parse_none (Ok x) P v h is = absurd (cc)
parse_none (Err e) P v h is = h

and_false : (b : Bool) → (b && false) ≡ false
and_false true = refl
and_false false = refl

-- digits that `parse` does not read are no count
pub uncounted : {E : Type 0} (r : Result ℕ E) (text : List ℕ) → 0 < length text → all_ascii_digits text ≡ true → ParsesUnsigned 32 10 text r → None ≡ result_ok r → None ≡ count_in text
uncounted r text some digits parses none =
    let stands : without_leading_plus text ≡ text = digits_stand text digits in
    let numeral : IsNumeral 10 text = (some, numerals.to text digits) in
    let great : digits_value 10 text < 2 ^ 32 → ⊥ =
    λ h. parse_none r _ _ parses none (subst (λ t. IsNumeral 10 t × (digits_value 10 t < 2 ^ 32)) (sym stands) (numeral, h)) in
    let past : leb (digits_value 10 text) 2147483647 ≡ false = grind (arith, nat_tests) in
    let front : Bool = leb 1 (length text) && leb (length text) 10 && all_ascii_digits text in
    sym (ap (λ b. cond (front && b) (Some (digits_value 10 text)) None) past ∙ ap (λ b. cond b (Some (digits_value 10 text)) None) (and_false front))
