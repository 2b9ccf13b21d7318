use Rattle.std.proofs.Common.{◌≡◌, ◌++◌, string_bytes}
use Rattle.std.specs.Str.{chars, IsUtf8}
use Rattle.std.specs.Str.Iter.{chars_rest}
use Rattle.request_form.specs.Values.{names_in}
use Rattle.request_form.proofs.Names.{after}
use Rattle.request_form.proofs.value.add_names.Given as goal

-- the names so far, and those of the rest behind the name so far
abbrev pub invariant-loop-c : goal.invariant-loop-c
invariant-loop-c l = record {
  whole : l.names.items ++ after (string_bytes l.name) (chars (chars_rest l.c-iterator)) ≡ l.fn.names.items ++ names_in l.value;
  utf8 : IsUtf8 (chars_rest l.c-iterator);
}
