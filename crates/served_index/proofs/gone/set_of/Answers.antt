use Rattle.std.proofs.Common.{◌∙◌}
use Rattle.served_index.proofs.Numbering.{shown_rises, shown_below, shown_set}
use Rattle.served_index.proofs.gone.set_of.Goals as goal

pub from_sorted-requires-clause-rising : goal.from_sorted-requires-clause-rising
from_sorted-requires-clause-rising c =
    shown_rises c.args.numbers.now c.in_ok-sorted.sorted.items c.sort_unstable.new.self.items c.dedup.new.self.items c.as_slice.result.now
    (c.in_ok-sorted.ensures.items_if_clones_equal (λ x y e. e)) c.sort_unstable.ensures.permutation c.dedup.ensures.filtered c.as_slice.ensures.value c.sort_unstable.ensures.sorted

pub from_sorted-requires-clause-documents : goal.from_sorted-requires-clause-documents
from_sorted-requires-clause-documents c =
    shown_below c.args.numbers.now c.in_ok-sorted.sorted.items c.sort_unstable.new.self.items c.dedup.new.self.items c.as_slice.result.now
    (c.in_ok-sorted.ensures.items_if_clones_equal (λ x y e. e)) c.sort_unstable.ensures.permutation c.dedup.ensures.filtered c.as_slice.ensures.value c.requires

pub returns : goal.returns
returns c =
    c.in-Ok.ensures
    ∙ shown_set c.args.numbers.now c.in_ok-sorted.sorted.items c.sort_unstable.new.self.items c.dedup.new.self.items c.as_slice.result.now
    (c.in_ok-sorted.ensures.items_if_clones_equal (λ x y e. e)) c.sort_unstable.ensures.permutation c.dedup.ensures.filtered c.as_slice.ensures.value
