use Rattle.std.proofs.Common.{◌≤◌, length, vec_len, refl, sym, subst, ◌∙◌, arith}
use Rattle.doc_sets.specs.Sets.{IsAscending}
use Rattle.doc_sets.specs.Forms.{IsShortList}
use Rattle.doc_sets.specs.declared.TheConstants.{MAX_DOCS}
use Rattle.doc_sets.proofs.Rising.{Rises-from_increasing}
use Rattle.doc_sets.proofs.SetsOf.{row_of_list}
use Rattle.doc_sets.proofs.Smaller.{short_list, short_row}
use Rattle.doc_sets.proofs.doc_set.DocSet.from_sorted.Goals as goal

pub words_for-requires : goal.words_for-requires
words_for-requires c = Rises-from_increasing 0 MAX_DOCS c.args.numbers.now c.requires.rising c.requires.documents (λ p. omega arith)

pub row_of-requires : goal.row_of-requires
row_of-requires c = Rises-from_increasing 0 MAX_DOCS c.args.numbers.now c.requires.rising c.requires.documents (λ p. omega arith)

pub of_row-requires-clause-short : goal.of_row-requires-clause-short
of_row-requires-clause-short c =
    let numbers = c.args.numbers.now in
    let rises : IsAscending numbers = Rises-from_increasing 0 MAX_DOCS numbers c.requires.rising c.requires.documents (λ p. omega arith) in
    let fits : vec_len c.in_ok-words.words ≤ c.words_for.result = c.in_ok-words.ensures.least c.words_for.result c.words_for.ensures.reaches in
    short_row _ numbers c.words_for.result (length numbers) (omega arith) rises c.in_ok-words.ensures.members (omega arith) refl
    (sym c.bits_are_smaller.ensures ∙ c.if-bits_are_smaller.true)

pub of_list-requires-clause-rises : goal.of_list-requires-clause-rises
of_list-requires-clause-rises c =
    let rises : IsAscending c.args.numbers.now = Rises-from_increasing 0 MAX_DOCS c.args.numbers.now c.requires.rising c.requires.documents (λ p. omega arith) in
    subst IsAscending (sym (c.in_ok-numbers.ensures.items_if_clones_equal (λ x y e. e))) rises

pub of_list-requires-clause-short : goal.of_list-requires-clause-short
of_list-requires-clause-short c =
    subst IsShortList (sym (c.in_ok-numbers.ensures.items_if_clones_equal (λ x y e. e)))
    (short_list c.args.numbers.now c.words_for.result (length c.args.numbers.now) c.words_for.ensures.least refl
    (sym c.bits_are_smaller.ensures ∙ c.if-bits_are_smaller.false))

pub returns-in_ok-words : goal.returns-in_ok-words
returns-in_ok-words c = c.of_row.ensures ∙ row_of_list _ c.args.numbers.now c.in_ok-words.ensures.members
