use Rattle.std.proofs.Common.{◌≡◌, ◌++◌, drop, string_bytes}
use Rattle.query_lexemes.specs.Letters.{text_of}
use Rattle.query_lexemes.proofs.letter.text_of.Given as goal

-- the text so far and that of the other letters are the whole
abbrev pub invariant-loop-letter : goal.invariant-loop-letter
invariant-loop-letter l = string_bytes l.text ++ text_of (drop l.letter-index l.letters) ≡ text_of l.letters
