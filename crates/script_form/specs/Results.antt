-- Results in a row.
use Rattle.std.specs.Prelude.{Result, Ok, Err}

-- the value under f, or the error
abbrev pub result_map : {A B E : Type 0} → (A → B) → Result A E → Result B E
result_map f (Ok x) = Ok (f x)
result_map f (Err e) = Err e

-- what follows the value, or the error
abbrev pub result_then : {A B E : Type 0} → Result A E → (A → Result B E) → Result B E
result_then (Ok x) next = next x
result_then (Err e) next = Err e
