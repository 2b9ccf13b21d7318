use Rattle.std.proofs.Common.{◌≡◌, ◌+◌, ◌++◌, length, map, sym, ap, subst, ◌∙◌, arith}
use Rattle.std.specs.Arc.{arc_value}
use Rattle.std.proofs.lemmas.List.{length-map}
use Rattle.segment_postings.specs.Segments.{Part, AreIndexes}
use Rattle.segment_postings.specs.Renumbering.{moves_from}
use Rattle.segment_postings.specs.Views.{live_from}
use Rattle.segment_postings.proofs.SegmentLaws.{part_lawful}
use Rattle.segment_postings.proofs.MovedPlaces.{joined_docs, begun_few}
use Rattle.segment_postings.proofs.segment.Segment.joined.Goals as goal

pub overflow_cast-len : goal.overflow_cast-len
overflow_cast-len c =
    let few = begun_few arc_value c.args.live.now c.args.start c.as_slice-one.result.now c.new-docs.result.items c.add_live.new.all.items c.new-docs.ensures.items c.in_ok-add_live.ensures in
    omega (arith, few, c.len.ensures, ap length c.as_slice-one.ensures.value, c.first.invariant.0)

pub moves-requires-2-clause-new : goal.moves-requires-2-clause-new
moves-requires-2-clause-new c =
    let few = begun_few arc_value c.args.live.now c.args.start c.as_slice-one.result.now c.new-docs.result.items c.add_live.new.all.items c.new-docs.ensures.items c.in_ok-add_live.ensures in
    let first = sym (length-map c.first.inside.docs.items arc_value) ∙ ap (λ (p : Part). length p.docs) c.first.view_is in
    let second = sym (length-map c.second.inside.docs.items arc_value) ∙ ap (λ (p : Part). length p.docs) c.second.view_is in
    omega (arith, few, c.len.ensures, ap length c.as_slice-one.ensures.value, ap length c.as_slice-other.ensures.value, first, second, c.requires)

pub invariant_of-result : goal.invariant_of-result
invariant_of-result c =
    let one = c.as_slice-one.result.now in
    let other = c.as_slice-other.result.now in
    let fa = c.as_slice.result.now in
    let fb = c.as_slice-3.result.now in
    let first : AreIndexes (map arc_value one) fa = subst (λ fs. AreIndexes (map arc_value one) fs) (sym c.as_slice.ensures.value) (subst (λ ds. AreIndexes (map arc_value ds) c.first.inside.fields.items) (sym c.as_slice-one.ensures.value) c.first.invariant.1) in
    let second : AreIndexes (map arc_value other) fb = subst (λ fs. AreIndexes (map arc_value other) fs) (sym c.as_slice-3.ensures.value) (subst (λ ds. AreIndexes (map arc_value ds) c.second.inside.fields.items) (sym c.as_slice-other.ensures.value) c.second.invariant.1) in
    let begun : c.len.result ≡ length c.add_live.new.all.items = omega (arith, c.len.ensures) in
    let moves = c.as_slice-4.ensures.value ∙ c.in_ok-other_moves.ensures ∙ ap (λ n. moves_from c.args.live.now (c.args.start + length one) n (length other)) begun in
    let joined = joined_docs arc_value c.args.live.now c.args.start one other c.new-docs.result.items c.add_live.new.all.items c.add_live-2.new.all.items
    c.as_slice-2.result.now c.as_slice-4.result.now fa fb c.in_ok-fields.fields.items c.new-docs.ensures.items c.in_ok-add_live.ensures c.in_ok-add_live-2.ensures
    (c.as_slice-2.ensures.value ∙ c.in_ok-one_moves.ensures) moves first second c.in_ok-fields.ensures in
    let one_len = sym (length-map c.first.inside.docs.items arc_value) ∙ ap (λ (p : Part). length p.docs) c.first.view_is in
    let other_len = sym (length-map c.second.inside.docs.items arc_value) ∙ ap (λ (p : Part). length p.docs) c.second.view_is in
    (omega (arith, joined.few, length-map one arc_value, length-map other arc_value, length-map c.add_live-2.new.all.items arc_value, ap length c.as_slice-one.ensures.value, ap length c.as_slice-other.ensures.value, one_len, other_len, c.requires), joined.indexes)

pub returns-clause-docs : goal.returns-clause-docs
returns-clause-docs c =
    let one = c.as_slice-one.result.now in
    let other = c.as_slice-other.result.now in
    let fa = c.as_slice.result.now in
    let fb = c.as_slice-3.result.now in
    let first : AreIndexes (map arc_value one) fa = subst (λ fs. AreIndexes (map arc_value one) fs) (sym c.as_slice.ensures.value) (subst (λ ds. AreIndexes (map arc_value ds) c.first.inside.fields.items) (sym c.as_slice-one.ensures.value) c.first.invariant.1) in
    let second : AreIndexes (map arc_value other) fb = subst (λ fs. AreIndexes (map arc_value other) fs) (sym c.as_slice-3.ensures.value) (subst (λ ds. AreIndexes (map arc_value ds) c.second.inside.fields.items) (sym c.as_slice-other.ensures.value) c.second.invariant.1) in
    let begun : c.len.result ≡ length c.add_live.new.all.items = omega (arith, c.len.ensures) in
    let moves = c.as_slice-4.ensures.value ∙ c.in_ok-other_moves.ensures ∙ ap (λ n. moves_from c.args.live.now (c.args.start + length one) n (length other)) begun in
    let joined = joined_docs arc_value c.args.live.now c.args.start one other c.new-docs.result.items c.add_live.new.all.items c.add_live-2.new.all.items
    c.as_slice-2.result.now c.as_slice-4.result.now fa fb c.in_ok-fields.fields.items c.new-docs.ensures.items c.in_ok-add_live.ensures c.in_ok-add_live-2.ensures
    (c.as_slice-2.ensures.value ∙ c.in_ok-one_moves.ensures) moves first second c.in_ok-fields.ensures in
    let xs = ap (map arc_value) c.as_slice-one.ensures.value ∙ ap (λ (p : Part). p.docs) c.first.view_is in
    let ys = ap (map arc_value) c.as_slice-other.ensures.value ∙ ap (λ (p : Part). p.docs) c.second.view_is in
    joined.docs ∙ (λ j. live_from c.args.live.now c.args.start (xs j ++ ys j))

pub returns-clause-lawful : goal.returns-clause-lawful
returns-clause-lawful c =
    let one = c.as_slice-one.result.now in
    let other = c.as_slice-other.result.now in
    let fa = c.as_slice.result.now in
    let fb = c.as_slice-3.result.now in
    let first : AreIndexes (map arc_value one) fa = subst (λ fs. AreIndexes (map arc_value one) fs) (sym c.as_slice.ensures.value) (subst (λ ds. AreIndexes (map arc_value ds) c.first.inside.fields.items) (sym c.as_slice-one.ensures.value) c.first.invariant.1) in
    let second : AreIndexes (map arc_value other) fb = subst (λ fs. AreIndexes (map arc_value other) fs) (sym c.as_slice-3.ensures.value) (subst (λ ds. AreIndexes (map arc_value ds) c.second.inside.fields.items) (sym c.as_slice-other.ensures.value) c.second.invariant.1) in
    let begun : c.len.result ≡ length c.add_live.new.all.items = omega (arith, c.len.ensures) in
    let moves = c.as_slice-4.ensures.value ∙ c.in_ok-other_moves.ensures ∙ ap (λ n. moves_from c.args.live.now (c.args.start + length one) n (length other)) begun in
    let joined = joined_docs arc_value c.args.live.now c.args.start one other c.new-docs.result.items c.add_live.new.all.items c.add_live-2.new.all.items
    c.as_slice-2.result.now c.as_slice-4.result.now fa fb c.in_ok-fields.fields.items c.new-docs.ensures.items c.in_ok-add_live.ensures c.in_ok-add_live-2.ensures
    (c.as_slice-2.ensures.value ∙ c.in_ok-one_moves.ensures) moves first second c.in_ok-fields.ensures in
    part_lawful (map arc_value c.add_live-2.new.all.items) c.in_ok-fields.fields.items joined.indexes
