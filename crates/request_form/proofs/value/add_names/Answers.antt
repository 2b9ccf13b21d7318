use Rattle.std.proofs.Common.{◌≡◌, ◌++◌, ℕ, List, [], ◌∷◌, true, false, length, filter, string_bytes, refl, sym, ap, subst, ◌∙◌, arith}
use Rattle.std.specs.Str.{chars, IsUtf8}
use Rattle.std.specs.Str.Iter.{chars_rest}
use Rattle.std.proofs.lemmas.Result.{on_ok_weaker}
use Rattle.std.proofs.lemmas.Str.{chars-nil, IsUtf8-past_char}
use Rattle.field_schema.specs.Tokens.{is_filled}
use Rattle.request_form.specs.Values.{is_separator, names_in}
use Rattle.request_form.proofs.Names.{after, after_is_names, ends_here, goes_on}
use Rattle.request_form.proofs.value.add_names.Goals as goal

pub loop-c-init : goal.loop-c-init
loop-c-init c =
    let it = c.into_iter-c-iterator.result in
    let e : chars_rest it ≡ c.args.value.now = ap chars_rest c.into_iter-c-iterator.ensures.into_iter_gives ∙ c.chars-c-items.ensures.rest in
    let begun : string_bytes c.new-name.result ≡ [] = c.new-name.ensures.bytes in
    record {
      whole = ap (λ t. c.args.names.now.items ++ t) (ap (λ n. after n (chars (chars_rest it))) begun ∙ ap (λ bs. after [] (chars bs)) e ∙ after_is_names c.args.value.now);
      utf8 = subst IsUtf8 (sym e) c.utf8.value;
    }

pub loop-c-preserved-in-Continue-1 : goal.loop-c-preserved-in-Continue-1
loop-c-preserved-in-Continue-1 c =
    let bs = chars_rest c.loop-c.c-iterator in
    let rest = chars_rest c.next.new.self in
    let e = c.in-Some.ensures.steps.0 in
    let utf8 = c.loop-c.invariant.utf8 in
    let parts : is_separator c.in-Some.c ≡ true = sym c.is_separator.ensures ∙ c.if-is_separator.true in
    let ended : c.replace-ended.result ≡ c.loop-c.name = c.replace-ended.ensures.value in
    let begun : string_bytes c.replace-ended.new.dest ≡ [] = ap string_bytes c.replace-ended.ensures.after ∙ c.new.ensures.bytes in
    let grown : c.add_name.new.names.items ≡ c.loop-c.names.items ++ filter is_filled (string_bytes c.loop-c.name ∷ []) = rw (← ended) c.in_ok-add_name.ensures in
    record {
      whole = ap (λ n. c.add_name.new.names.items ++ after n (chars rest)) begun ∙ ends_here c.loop-c.names.items c.add_name.new.names.items (string_bytes c.loop-c.name) bs rest c.in-Some.c utf8 e parts grown ∙ c.loop-c.invariant.whole;
      utf8 = IsUtf8-past_char bs rest c.in-Some.c utf8 e;
    }

pub loop-c-preserved : goal.loop-c-preserved
loop-c-preserved c =
    let bs = chars_rest c.loop-c.c-iterator in
    let rest = chars_rest c.next.new.self in
    let e = c.in-Some.ensures.steps.0 in
    let utf8 = c.loop-c.invariant.utf8 in
    let parts : is_separator c.in-Some.c ≡ false = sym c.is_separator.ensures ∙ c.if-is_separator.false in
    record {
      whole = goes_on c.loop-c.names.items (string_bytes c.loop-c.name) (string_bytes c.push.new.self) bs rest c.in-Some.c utf8 e parts c.in_ok-push.ensures.bytes ∙ c.loop-c.invariant.whole;
      utf8 = IsUtf8-past_char bs rest c.in-Some.c utf8 e;
    }

nil : (xs : List ℕ) → length xs ≡ 0 → xs ≡ []
nil [] e = refl
nil (x ∷ xs) e = absurd (omega arith)

pub returns : goal.returns
returns c =
    let bs = chars_rest c.loop-c.c-iterator in
    let done : chars bs ≡ [] = ap chars (nil bs c.in-None.ensures.steps.0.0) ∙ chars-nil in
    let name = string_bytes c.loop-c.name in
    let kept : c.loop-c.names.items ++ filter is_filled (name ∷ []) ≡ c.args.names.now.items ++ names_in c.args.value.now = ap (λ cs. c.loop-c.names.items ++ after name cs) (sym done) ∙ c.loop-c.invariant.whole in
    on_ok_weaker c.add_name-2.result (λ grown. grown ∙ kept) c.add_name-2.ensures
