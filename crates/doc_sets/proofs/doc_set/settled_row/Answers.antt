use Rattle.std.proofs.Common.{sym, ap, subst, ◌∙◌, arith}
use Rattle.std.proofs.lemmas.Result.{IfOk-weaker}
use Rattle.std.specs.FinSet.{from_list}
use Rattle.doc_sets.specs.Sets.{IsAscending}
use Rattle.doc_sets.specs.BitRows.{numbers_of}
use Rattle.doc_sets.proofs.Bits.{ascending-numbers_of}
use Rattle.doc_sets.proofs.SetsOf.{row_of_row}
use Rattle.doc_sets.proofs.doc_set.settled_row.Goals as goal

pub settled_list-requires : goal.settled_list-requires
settled_list-requires c = subst IsAscending (sym c.in_ok-listing.ensures) (ascending-numbers_of c.deref-else-bits_are_smaller.result.now (omega arith))

pub returns-then-bits_are_smaller : goal.returns-then-bits_are_smaller
returns-then-bits_are_smaller c = row_of_row _ c.args.words.items c.trim.ensures.same

pub returns-in_ok-listing : goal.returns-in_ok-listing
returns-in_ok-listing c =
    IfOk-weaker c.settled_list.result _ _ (λ s e. e
    ∙ ap from_list (c.in_ok-listing.ensures ∙ ap numbers_of c.deref-else-bits_are_smaller.ensures.value)
    ∙ row_of_row _ c.args.words.items c.trim.ensures.same) c.settled_list.ensures
