use Rattle.std.proofs.Common.{◌+◌, ◌<◌, ◌∷◌, [], ◌++◌, length, map, take, sym, ap, subst, ◌∙◌, arith}
use Rattle.std.specs.Arc.{arc_value}
use Rattle.std.proofs.lemmas.List.{length-map}
use Rattle.segment_postings.specs.Segments.{Part}
use Rattle.segment_postings.specs.Positions.{positions_among, positions_of}
use Rattle.segment_postings.specs.Views.{Indexed, all_docs}
use Rattle.segment_postings.proofs.Joining.{take_all}
use Rattle.segment_postings.proofs.ViewLoops.{docs_within, mapped_take}
use Rattle.segment_postings.proofs.PositionsGathered.{PartPositions, no_part_positions, positions_of_part}
use Rattle.segment_postings.proofs.view.View.add_positions.Goals as goal

pub add_positions-requires : goal.add_positions-requires
add_positions-requires c =
    let xs = c.as_slice-parts.result.now in
    let within : c.loop-part.part-index < length xs = omega arith in
    let below = docs_within arc_value xs c.loop-part.part-index c.part-item.result within c.part-item.is in
    let here = ap (λ (p : Part). length p.docs) c.deref.ensures in
    let all = ap (λ ps. length (all_docs (map arc_value ps))) c.as_slice-parts.ensures.value in
    omega (arith, below, here, all, c.loop-part.invariant.start, c.self.invariant.size, c.self.invariant.most)

pub overflow_add-base : goal.overflow_add-base
overflow_add-base c =
    let xs = c.as_slice-parts.result.now in
    let within : c.loop-part.part-index < length xs = omega arith in
    let below = docs_within arc_value xs c.loop-part.part-index c.part-item.result within c.part-item.is in
    let here = ap (λ (p : Part). length p.docs) c.deref-in-loop-part.ensures in
    let docs = sym (length-map c.docs.result.now arc_value) ∙ ap length c.docs.ensures.docs in
    let all = ap (λ ps. length (all_docs (map arc_value ps))) c.as_slice-parts.ensures.value in
    omega (arith, below, here, docs, all, c.loop-part.invariant.start, c.self.invariant.size, c.self.invariant.most)

pub loop-part-init : goal.loop-part-init
loop-part-init c = no_part_positions c.deref-live.result.now c.args.field c.args.key.now c.args.found.now.items

pub loop-part-preserved : goal.loop-part-preserved
loop-part-preserved c =
    let xs = c.as_slice-parts.result.now in
    let live = c.deref-live.result.now in
    let init = c.args.found.now.items in
    let k = c.args.key.now in
    let within : c.loop-part.part-index < length xs = omega arith in
    let ps = map arc_value (take c.loop-part.part-index xs) in
    let q = c.deref.result.now in
    let step = positions_of_part live c.args.field k init ps q c.loop-part.base c.loop-part.found.items c.add_positions.new.found.items c.loop-part.invariant c.in_ok-add_positions.ensures in
    let docs = sym (length-map c.docs.result.now arc_value) ∙ ap length c.docs.ensures.docs ∙ ap (λ (r : Part). length r.docs) (c.deref-in-loop-part.ensures ∙ sym c.deref.ensures) in
    let list = mapped_take arc_value xs c.loop-part.part-index c.part-item.result within c.part-item.is ∙ ap (λ (r : Part). ps ++ r ∷ []) (sym c.deref.ensures) in
    subst (λ n. PartPositions live c.args.field k init (map arc_value (take (c.loop-part.part-index + 1) xs)) (c.loop-part.base + n) c.add_positions.new.found.items) (sym docs)
    (subst (λ qs. PartPositions live c.args.field k init qs (c.loop-part.base + length q.docs) c.add_positions.new.found.items) (sym list) step)

pub returns : goal.returns
returns c =
    let xs = c.as_slice-parts.result.now in
    let k = c.args.key.now in
    c.loop-part.invariant.is
    ∙ ap (λ ps. c.args.found.now.items ++ ps) (
    ap (λ ys. positions_among c.deref-live.result.now 0 c.args.field k (all_docs (map arc_value ys))) (take_all c.loop-part.part-index xs c.loop-part-test.false ∙ c.as_slice-parts.ensures.value)
    ∙ ap (λ live. positions_among live 0 c.args.field k (all_docs (map arc_value c.self.inside.parts.items))) c.deref-live.ensures
    ∙ ap (λ (v : Indexed). positions_of v.seen c.args.field k) c.self.view_is)
