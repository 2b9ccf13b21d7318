-- A value, unless there is a fault.
use Rattle.std.specs.Prelude.{⊤}
use Rattle.std.proofs.Common.{◌≡◌, Bool, true, false, MatchBool, Option, Some, None, Ok, Err, ap}
use Rattle.field_schema.specs.Readers.{or_fault}

module _ {A E : Type 0} (x : A) where
  pub or_none : (o : Option E) → o ≡ None → or_fault x o ≡ Ok x
  or_none o is = ap (or_fault x) is

  pub or_some : (o : Option E) (e : E) → o ≡ Some e → or_fault x o ≡ Err e
  or_some o e is = ap (or_fault x) is

  pub ok_told : (o : Option E) (y : A) → or_fault x o ≡ Ok y → (o ≡ None) × (x ≡ y)
  ok_told None y h = (cc, cc)
  ok_told (Some e) y h = cc

  pub err_told : (o : Option E) (e : E) → or_fault x o ≡ Err e → o ≡ Some e
  err_told None e h = cc
  err_told (Some d) e h = cc

pub weaker : (b : Bool) {P Q : Type 0} → (P → Q) → MatchBool b ⊤ P → MatchBool b ⊤ Q
weaker true f h = h
weaker false f h = f h
