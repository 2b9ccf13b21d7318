use Rattle.std.proofs.Common.{◌≡◌, ◌++◌, string_bytes}
use Rattle.std.specs.List.{flat_map}
use Rattle.std.specs.Str.{chars, IsUtf8}
use Rattle.std.specs.Str.Iter.{chars_rest}
use Rattle.query_text.specs.Printing.{escaped_char}
use Rattle.query_text.proofs.printing.write_escapes.Given as goal

-- the text so far and that of the other characters are the whole
abbrev pub invariant-loop-c : goal.invariant-loop-c
invariant-loop-c l = record {
  whole : string_bytes l.out ++ flat_map escaped_char (chars (chars_rest l.c-iterator)) ≡ string_bytes l.initial.out ++ flat_map escaped_char (chars l.text);
  utf8 : IsUtf8 (chars_rest l.c-iterator);
}
