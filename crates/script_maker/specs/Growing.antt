-- A text that is written piece by piece.
use Rattle.std.specs.Prelude.{◌≡◌, ℕ, List, ◌++◌, String, string_bytes}
use Rattle.script_form.specs.declared.script.What.{What}
use Rattle.script_maker.specs.Written.{script_text}

-- the text has grown by a piece
pub record Grows (old new piece : List ℕ) : Type 0 where
  pub is : new ≡ old ++ piece

-- the same of strings
abbrev pub Gains : {Z : Type 0} → String Z → String Z → List ℕ → Type 0
Gains old new piece = Grows (string_bytes old) (string_bytes new) piece

-- the lines that ask for these are written behind what was there
abbrev pub GainsLines : {Z : Type 0} → String Z → String Z → List What → Type 0
GainsLines old new asked = Gains old new (script_text asked)
