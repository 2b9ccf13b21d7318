use Rattle.std.proofs.Common.{◌≡◌, ◌+◌, ◌≤◌, ◌++◌, true, length}
use Rattle.std.specs.Str.{chars, IsUtf8}
use Rattle.std.specs.Str.Iter.{chars_rest}
use Rattle.query_lexemes.specs.Letters.{letters, letters_from}
use Rattle.query_lexemes.proofs.letter.letters.Given as goal

-- the letters so far and those of the rest are the text's
abbrev pub invariant-loop-c : goal.invariant-loop-c
invariant-loop-c l = record {
  whole : l.found.items ++ letters_from l.escaping l.at (chars (chars_rest l.c-iterator)) ≡ letters l.text;
  place : l.at + length (chars_rest l.c-iterator) ≡ length l.text;
  behind : l.escaping ≡ true → 1 ≤ l.at;
  utf8 : IsUtf8 (chars_rest l.c-iterator);
}
