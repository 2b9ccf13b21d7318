use Rattle.std.proofs.Common.{◌≡◌, ◌++◌, string_bytes}
use Rattle.std.specs.Str.Iter.{chars_rest}
use Rattle.field_schema.specs.Tokens.{tokens}
use Rattle.field_schema.proofs.TokenRuns.{after}
use Rattle.field_schema.proofs.token.tokens.Given as goal

-- the tokens so far, and those of the rest behind the token so far, are the text's
abbrev pub invariant-loop-c : goal.invariant-loop-c
invariant-loop-c l = tokens l.text ≡ l.found.items ++ after (string_bytes l.token) (chars_rest l.c-iterator)
