use Rattle.std.proofs.Common.{◌≡◌, ◌<◌, sym, ap, subst, ◌∙◌, All}
use Rattle.std.specs.FinSet.{from_list, len}
use Rattle.std.specs.List.Sorted.{IsStrictlyIncreasing}
use Rattle.doc_sets.specs.declared.TheConstants.{MAX_DOCS}
use Rattle.segment_postings.proofs.ViewLaws.{range_rises, range_below, numbers_added, all_stay}
use Rattle.segment_postings.proofs.view.with_numbers.Goals as goal

pub from_sorted-requires-clause-rising : goal.from_sorted-requires-clause-rising
from_sorted-requires-clause-rising c = subst IsStrictlyIncreasing (sym (c.as_slice.ensures.value ∙ c.in_ok-numbers.ensures)) (range_rises c.args.size c.args.count)

pub from_sorted-requires-clause-documents : goal.from_sorted-requires-clause-documents
from_sorted-requires-clause-documents c = subst (All (λ m. m < MAX_DOCS)) (sym (c.as_slice.ensures.value ∙ c.in_ok-numbers.ensures)) (range_below c.args.size c.args.count MAX_DOCS c.requires.most)

pub returns-then-len-eq0 : goal.returns-then-len-eq0
returns-then-len-eq0 c =
    let none : len c.args.deleted.now ≡ 0 = sym c.len.ensures.count ∙ c.if-len-eq0.true in
    numbers_added c.args.live.now c.args.deleted.now c.args.live.now c.in-Ok.fresh c.in_ok-all.all c.args.size c.args.count
    (all_stay c.args.live.now c.args.deleted.now none) (c.in-Ok.ensures ∙ ap from_list (c.as_slice.ensures.value ∙ c.in_ok-numbers.ensures)) c.in_ok-all.ensures c.requires.within

pub returns : goal.returns
returns c =
    numbers_added c.args.live.now c.args.deleted.now c.in-Ok-minus.kept c.in-Ok.fresh c.in_ok-all-2.all c.args.size c.args.count
    c.in-Ok-minus.ensures (c.in-Ok.ensures ∙ ap from_list (c.as_slice.ensures.value ∙ c.in_ok-numbers.ensures)) c.in_ok-all-2.ensures c.requires.within
