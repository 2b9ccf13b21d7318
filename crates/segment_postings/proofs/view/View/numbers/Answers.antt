use Rattle.std.proofs.Common.{◌+◌, ◌<◌, ◌∷◌, [], ◌++◌, length, map, take, sym, ap, subst, ◌∙◌, arith}
use Rattle.std.specs.Arc.{arc_value}
use Rattle.std.specs.FinSet.{intersection}
use Rattle.std.proofs.lemmas.List.{length-map}
use Rattle.field_schema.specs.Keys.{key_eq}
use Rattle.segment_postings.specs.Segments.{Part}
use Rattle.segment_postings.specs.Spans.{numbers_among, numbers_within}
use Rattle.segment_postings.specs.Views.{Indexed, all_docs}
use Rattle.segment_postings.proofs.Joining.{take_all}
use Rattle.segment_postings.proofs.ViewLoops.{docs_within, mapped_take}
use Rattle.segment_postings.proofs.SpanNumbers.{PartSets, no_part_sets, set_of_part, live_numbers}
use Rattle.segment_postings.proofs.view.View.numbers.Goals as goal

pub add_numbers-requires-clause-documents : goal.add_numbers-requires-clause-documents
add_numbers-requires-clause-documents c =
    let xs = c.as_slice-parts.result.now in
    let within : c.loop-part.part-index < length xs = omega arith in
    let below = docs_within arc_value xs c.loop-part.part-index c.part-item.result within c.part-item.is in
    let here = ap (λ (p : Part). length p.docs) c.deref.ensures in
    let all = ap (λ ps. length (all_docs (map arc_value ps))) c.as_slice-parts.ensures.value in
    omega (arith, below, here, all, c.loop-part.invariant.start, c.self.invariant.size, c.self.invariant.most)

pub overflow_add-base : goal.overflow_add-base
overflow_add-base c =
    let xs = c.as_slice-parts.result.now in
    let within : c.loop-part.part-index < length xs = omega arith in
    let below = docs_within arc_value xs c.loop-part.part-index c.part-item.result within c.part-item.is in
    let here = ap (λ (p : Part). length p.docs) c.deref-in-loop-part.ensures in
    let docs = sym (length-map c.docs.result.now arc_value) ∙ ap length c.docs.ensures.docs in
    let all = ap (λ ps. length (all_docs (map arc_value ps))) c.as_slice-parts.ensures.value in
    omega (arith, below, here, docs, all, c.loop-part.invariant.start, c.self.invariant.size, c.self.invariant.most)

pub loop-part-init : goal.loop-part-init
loop-part-init c = no_part_sets c.args.field (key_eq c.args.key.now) _ c.new-found.ensures

pub loop-part-preserved : goal.loop-part-preserved
loop-part-preserved c =
    let xs = c.as_slice-parts.result.now in
    let p = key_eq c.args.key.now in
    let within : c.loop-part.part-index < length xs = omega arith in
    let ps = map arc_value (take c.loop-part.part-index xs) in
    let q = c.deref.result.now in
    let step = set_of_part c.args.field p ps q c.loop-part.base c.loop-part.found c.add_numbers.new.found c.loop-part.invariant c.in_ok-add_numbers.ensures in
    let docs = sym (length-map c.docs.result.now arc_value) ∙ ap length c.docs.ensures.docs ∙ ap (λ (r : Part). length r.docs) (c.deref-in-loop-part.ensures ∙ sym c.deref.ensures) in
    let list = mapped_take arc_value xs c.loop-part.part-index c.part-item.result within c.part-item.is ∙ ap (λ (r : Part). ps ++ r ∷ []) (sym c.deref.ensures) in
    subst (λ n. PartSets c.args.field p (map arc_value (take (c.loop-part.part-index + 1) xs)) (c.loop-part.base + n) c.add_numbers.new.found) (sym docs)
    (subst (λ qs. PartSets c.args.field p qs (c.loop-part.base + length q.docs) c.add_numbers.new.found) (sym list) step)

pub returns : goal.returns
returns c =
    let xs = c.as_slice-parts.result.now in
    let p = key_eq c.args.key.now in
    let ds = all_docs (map arc_value c.self.inside.parts.items) in
    let whole = c.loop-part.invariant.is
    ∙ ap (λ ys. numbers_among 0 c.args.field p (all_docs (map arc_value ys))) (take_all c.loop-part.part-index xs c.loop-part-test.false ∙ c.as_slice-parts.ensures.value) in
    c.in_ok-alive.ensures
    ∙ (λ j. intersection (whole j) (c.deref-2.ensures j))
    ∙ live_numbers _ ds c.args.field p
    ∙ ap (λ (v : Indexed). numbers_within v.seen c.args.field p) c.self.view_is
