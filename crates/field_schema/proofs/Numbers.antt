-- What texts and numbers read to.
use Rattle.std.proofs.Common.{◌≡◌, ℕ, ◌^◌, Bool, true, false, cond, List, length, Some, None, Result, Ok, Err, ℤ, pos, negsuc, Decides, refl, ap}
use mir.Syntax.{w64}
use mir.Val.{SFits as FitsSigned}
use Rattle.std.specs.Result.{OkIff, result_ok}
use Rattle.std.specs.Str.{all_ascii_digits}
use Rattle.std.specs.Str.Parse.{AllDigits, ParsesSigned, without_leading_sign, signed_digits_value, digits_value}
use Rattle.std.proofs.lemmas.Bool.Decides.{Decides-ltb, Decides-and}
use Rattle.std.proofs.lemmas.Str.Parse.{IsNumeralModel, numerals_by_value, tells_all_ascii_digits}
use Rattle.field_schema.specs.ValueTexts.{is_i64, long_text}

numerals : IsNumeralModel (λ ds. all_ascii_digits ds ≡ true) (digits_value 10)
numerals = numerals_by_value _ tells_all_ascii_digits

digits-Decides : (ds : List ℕ) → Decides (all_ascii_digits ds) (AllDigits 10 ds)
digits-Decides ds = (numerals.to ds, numerals.from ds)

pub is_i64-Decides : (z : ℤ) → Decides (is_i64 z) (FitsSigned w64 z)
is_i64-Decides (pos n) = let t = Decides-ltb n (2 ^ 63) in (λ e. record { sfits = t.0 e }, λ h. t.1 h.sfits)
is_i64-Decides (negsuc n) = let t = Decides-ltb n (2 ^ 63) in (λ e. record { sfits = t.0 e }, λ h. t.1 h.sfits)

ok_where : {E : Type 0} (r : Result ℤ E) (P : Type 0) (b : Bool) (v : ℤ) → OkIff r P v → Decides b P → result_ok r ≡ cond b (Some v) None
ok_where (Ok x) P b v h d = rw (d.1 h.0) (ap Some h.1)
ok_where (Err e) P true v h d = absurd (h (d.0 refl))
ok_where (Err e) P false v h d = refl

-- what `parse` reads is what the text writes
pub parse_is_long_text : {E : Type 0} (r : Result ℤ E) (text : List ℕ) → ParsesSigned w64 10 text r → result_ok r ≡ long_text text
parse_is_long_text r text h =
    let ds = without_leading_sign text in
    ok_where r _ _ _ h (Decides-and _ _ (Decides-and _ _ (Decides-ltb 0 (length ds)) (digits-Decides ds)) (is_i64-Decides (signed_digits_value 10 text)))
