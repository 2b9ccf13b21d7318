use Rattle.std.proofs.Common.{◌≤◌, vec_len, sym, ap, subst, ◌∙◌, arith}
use Rattle.doc_sets.specs.Sets.{is_in}
use Rattle.doc_sets.specs.BitRows.{Reaches}
use Rattle.doc_sets.proofs.SetsOf.{row_of_list}
use Rattle.doc_sets.proofs.Smaller.{short_list, short_row}
use Rattle.doc_sets.proofs.doc_set.settled_list.Goals as goal

pub of_row-requires-clause-short : goal.of_row-requires-clause-short
of_row-requires-clause-short c =
    let reach = c.words_for.result in
    let same = c.deref-then-bits_are_smaller.ensures.value in
    let reaches : Reaches reach c.args.numbers.items = subst (Reaches reach) c.deref.ensures.value c.words_for.ensures.reaches in
    let fits : vec_len c.in_ok-words.words ≤ reach = c.in_ok-words.ensures.least reach (subst (Reaches reach) (sym same) reaches) in
    short_row _ c.args.numbers.items reach c.len.result (omega arith) c.requires
    (λ n. c.in_ok-words.ensures.members n ∙ ap (λ xs. is_in xs n) same) (omega arith) (omega arith)
    (sym c.bits_are_smaller.ensures ∙ c.if-bits_are_smaller.true)

pub of_list-requires-clause-short : goal.of_list-requires-clause-short
of_list-requires-clause-short c =
    short_list c.args.numbers.items c.words_for.result c.len.result
    (λ words reaches. c.words_for.ensures.least words (subst (Reaches words) (sym c.deref.ensures.value) reaches))
    (omega arith) (sym c.bits_are_smaller.ensures ∙ c.if-bits_are_smaller.false)

pub returns-in_ok-words : goal.returns-in_ok-words
returns-in_ok-words c =
    c.of_row.ensures ∙ row_of_list _ c.args.numbers.items (λ n. c.in_ok-words.ensures.members n ∙ ap (λ xs. is_in xs n) c.deref-then-bits_are_smaller.ensures.value)
