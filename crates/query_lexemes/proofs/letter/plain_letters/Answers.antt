use Rattle.std.proofs.Common.{◌≡◌, ◌++◌, ◌+◌, [], ◌∷◌, length, length-append, arith, refl, ap, sym, subst, ◌∙◌}
use Rattle.std.specs.Char.{len_utf8}
use Rattle.std.specs.Str.{chars, IsUtf8}
use Rattle.std.specs.Str.Iter.{chars_rest}
use Rattle.std.proofs.lemmas.List.{append_assoc, append-nil}
use Rattle.std.proofs.lemmas.Str.{chars_past_char, IsUtf8-past_char}
use Rattle.query_lexemes.specs.Letters.{plain}
use Rattle.query_lexemes.specs.SortItems.{plain_from, plain_letters}
use Rattle.query_lexemes.proofs.Characters.{nothing_left}
use Rattle.query_lexemes.proofs.letter.plain_letters.Goals as goal

pub loop-c-init : goal.loop-c-init
unfolding plain_letters
loop-c-init c =
    let e : chars_rest c.into_iter-c-iterator.result ≡ c.args.text.now = ap chars_rest c.into_iter-c-iterator.ensures.into_iter_gives ∙ c.chars-c-items.ensures.rest in
    record {
      whole = rw (e, c.new-found.ensures.items) refl;
      place = omega (arith, ap length e);
      utf8 = subst IsUtf8 (sym e) c.utf8.text;
    }

pub loop-c-preserved : goal.loop-c-preserved
unfolding plain_from
loop-c-preserved c =
    let e = c.in-Some.ensures.steps.0 in
    let utf8 = c.loop-c.invariant.utf8 in
    let rest = chars_rest c.next.new.self in
    let step : chars (chars_rest c.loop-c.c-iterator) ≡ c.in-Some.c ∷ chars rest = chars_past_char (chars_rest c.loop-c.c-iterator) rest c.in-Some.c utf8 e in
    let pushed : c.push.new.self.items ≡ c.loop-c.found.items ++ plain c.loop-c.at c.in-Some.c ∷ [] = c.in_ok-push.ensures.items ∙ ap (λ l. c.loop-c.found.items ++ l ∷ []) c.plain.ensures in
    record {
      whole = rw (c.len_utf8-at.ensures.value, pushed) (append_assoc c.loop-c.found.items (plain c.loop-c.at c.in-Some.c ∷ []) (plain_from (c.loop-c.at + len_utf8 c.in-Some.c) (chars rest)) ∙ ap (λ cs. c.loop-c.found.items ++ plain_from c.loop-c.at cs) (sym step) ∙ c.loop-c.invariant.whole);
      place = omega (arith, simp length-append at (ap length e));
      utf8 = IsUtf8-past_char (chars_rest c.loop-c.c-iterator) rest c.in-Some.c utf8 e;
    }

pub returns : goal.returns
unfolding plain_from
returns c =
    let done : chars (chars_rest c.loop-c.c-iterator) ≡ [] = nothing_left (chars_rest c.loop-c.c-iterator) c.in-None.ensures.steps.0.0 in
    sym (append-nil c.loop-c.found.items) ∙ ap (λ cs. c.loop-c.found.items ++ plain_from c.loop-c.at cs) (sym done) ∙ c.loop-c.invariant.whole
