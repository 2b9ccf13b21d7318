-- Whole numbers within 64 signed bits.
use Rattle.std.proofs.Common.{◌≡◌, ℕ, ◌^◌, Bool, true, false, cond, Some, None, option_and_then, ℤ, pos, refl, ap}
use Rattle.std.specs.Prelude.{nat_lt}
use Rattle.serde_json.specs.Data.{Num, unsigned, negative, float}
use Rattle.serde_json.specs.Find.{as_i64, as_integer}
use Rattle.field_schema.specs.declared.key.Key.TheVariants as key
use Rattle.field_schema.specs.ValueTexts.{is_i64}
use Rattle.doc_model.specs.ReadDoc.{long_value}

pub long_there : (n : Num) (z : ℤ) → Some z ≡ as_i64 n → is_i64 z ≡ true → Some (key.Long z) ≡ option_and_then long_value (as_integer n)
long_there (unsigned m) z e h = by_test _ refl e
  where
    by_test : (b : Bool) → nat_lt m (2 ^ 63) ≡ b → Some z ≡ cond b (Some (pos m)) None → Some (key.Long z) ≡ long_value (pos m)
    by_test true is e = let same : z ≡ pos m = cc in rw is (ap (λ (x : ℤ). Some (key.Long x)) same)
    by_test false is e = cc
long_there (negative y) z e h = let same : z ≡ y = cc in rw (← same, h) refl
long_there (float x) z e h = cc

pub long_nowhere : (n : Num) → None ≡ as_i64 n → None ≡ option_and_then long_value (as_integer n)
long_nowhere (unsigned m) e = by_test _ refl e
  where
    by_test : (b : Bool) → nat_lt m (2 ^ 63) ≡ b → None ≡ cond b (Some (pos m)) None → None ≡ long_value (pos m)
    by_test true is e = cc
    by_test false is e = rw is refl
long_nowhere (negative y) e = cc
long_nowhere (float x) e = refl
