use Rattle.std.proofs.Common.{◌≡◌, ◌+◌, ◌++◌, length}
use Rattle.std.specs.Str.{chars, IsUtf8}
use Rattle.std.specs.Str.Iter.{chars_rest}
use Rattle.query_lexemes.specs.SortItems.{plain_from, plain_letters}
use Rattle.query_lexemes.proofs.letter.plain_letters.Given as goal

-- the letters so far and those of the rest are the text's
abbrev pub invariant-loop-c : goal.invariant-loop-c
invariant-loop-c l = record {
  whole : l.found.items ++ plain_from l.at (chars (chars_rest l.c-iterator)) ≡ plain_letters l.text;
  place : l.at + length (chars_rest l.c-iterator) ≡ length l.text;
  utf8 : IsUtf8 (chars_rest l.c-iterator);
}
