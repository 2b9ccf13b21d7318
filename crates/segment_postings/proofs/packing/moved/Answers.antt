use Rattle.std.proofs.Common.{rules, filter, ◌≡◌, ◌<◌, ◌≤◌, ◌+◌, ◌-◌, sym, ap, subst, ◌∙◌, arith, All}
use Rattle.std.specs.Arc.{arc_value}
use Rattle.std.specs.FinSet.{from_list}
use Rattle.std.specs.List.{range_with_len}
use Rattle.std.specs.List.Sorted.{IsStrictlyIncreasing}
use Rattle.std.proofs.lemmas.List.Elements.{All-filter}
use Rattle.std.proofs.lemmas.List.Kept.{IsStrictlyIncreasing-filter}
use Rattle.doc_sets.specs.declared.TheConstants.{MAX_DOCS}
use Rattle.segment_postings.specs.Views.{is_moved}
use Rattle.segment_postings.proofs.ViewLaws.{range_rises, range_below}
use Rattle.segment_postings.proofs.Packed.{copies, moves}
use Rattle.segment_postings.proofs.packing.moved.Goals as goal

pub from_sorted-requires-clause-rising : goal.from_sorted-requires-clause-rising
from_sorted-requires-clause-rising c =
    let left = c.args.size - (c.args.packing.count - c.args.packing.kept) in
    subst IsStrictlyIncreasing (sym (c.as_slice.ensures.value ∙ c.in_ok-numbers.ensures)) (IsStrictlyIncreasing-filter (is_moved c.deref.result.now c.args.packing) (range_with_len 0 left) (range_rises 0 left))

pub from_sorted-requires-clause-documents : goal.from_sorted-requires-clause-documents
from_sorted-requires-clause-documents c =
    let left = c.args.size - (c.args.packing.count - c.args.packing.kept) in
    let most : 0 + left ≤ MAX_DOCS = omega (arith, c.requires.most) in
    subst (All (λ m. m < MAX_DOCS)) (sym (c.as_slice.ensures.value ∙ c.in_ok-numbers.ensures)) (All-filter (is_moved c.deref.result.now c.args.packing) (λ m. m < MAX_DOCS) (range_with_len 0 left) (range_below 0 left MAX_DOCS most))

pub returns-then-packing : goal.returns-then-packing
returns-then-packing c =
    let same : arc_value c.in_ok-same.same ≡ arc_value c.args.live.now = search rules in
    copies (arc_value c.args.live.now) (arc_value c.in_ok-same.same) c.args.size c.args.packing c.requires c.if-packing.true same

pub returns : goal.returns
returns c = moves (arc_value c.args.live.now) (arc_value c.in_ok-all.all) c.args.size c.args.packing c.requires (c.in_ok-all.ensures.ok ∙ c.in-Ok.ensures ∙ ap from_list (c.as_slice.ensures.value ∙ c.in_ok-numbers.ensures ∙ ap (λ live. filter (is_moved live c.args.packing) (range_with_len 0 (c.args.size - (c.args.packing.count - c.args.packing.kept)))) c.deref.ensures))
