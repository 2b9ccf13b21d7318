use Rattle.std.proofs.Common.{◌≡◌, ap, sym, subst, ◌∙◌, refl, string_bytes}
use Rattle.std.specs.Str.{IsUtf8}
use Rattle.std.specs.Str.Iter.{chars_rest}
use Rattle.std.proofs.lemmas.Str.{IsUtf8-past_char}
use Rattle.query_text.specs.Printing.{escaped_char}
use Rattle.query_text.proofs.Writing.{char_written, all_written}
use Rattle.query_text.proofs.printing.write_escapes.Goals as goal

pub loop-c-init : goal.loop-c-init
loop-c-init c =
    let e : chars_rest c.into_iter-c-iterator.result ≡ c.args.text.now = ap chars_rest c.into_iter-c-iterator.ensures.into_iter_gives ∙ c.chars-c-items.ensures.rest in
    record { whole = rw e refl; utf8 = subst IsUtf8 (sym e) c.utf8.text }

pub loop-c-preserved : goal.loop-c-preserved
loop-c-preserved c =
    let e = c.in-Some.ensures.steps.0 in
    let utf8 = c.loop-c.invariant.utf8 in
    record {
      whole = char_written escaped_char (string_bytes c.loop-c.out) (chars_rest c.loop-c.c-iterator) _ c.loop-c.invariant.whole _ (chars_rest c.next.new.self) c.in-Some.c utf8 e c.in_ok-write_escaped_char.ensures;
      utf8 = IsUtf8-past_char (chars_rest c.loop-c.c-iterator) (chars_rest c.next.new.self) c.in-Some.c utf8 e;
    }

pub returns : goal.returns
returns c = all_written escaped_char (string_bytes c.loop-c.out) (chars_rest c.loop-c.c-iterator) _ c.loop-c.invariant.whole c.in-None.ensures.steps.0.0
