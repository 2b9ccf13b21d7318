use Rattle.std.proofs.Common.{◌+◌, ◌<◌, ◌∷◌, [], ◌++◌, length, map, take, filter, sym, ap, subst, ◌∙◌, arith}
use Rattle.std.specs.Arc.{arc_value}
use Rattle.std.specs.List.{enumerate_from, filter_map}
use Rattle.std.specs.FinSet.{contains}
use Rattle.std.proofs.lemmas.List.{length-map}
use Rattle.segment_postings.specs.Postings.{posting_of, postings_of}
use Rattle.segment_postings.specs.Segments.{Part}
use Rattle.segment_postings.specs.Views.{Indexed, all_docs}
use Rattle.segment_postings.proofs.Joining.{take_all}
use Rattle.segment_postings.proofs.ViewLoops.{Gathered, docs_within, ends_before, gathers_part, mapped_take}
use Rattle.segment_postings.proofs.view.View.postings.Goals as goal

pub add_postings-requires-clause-most : goal.add_postings-requires-clause-most
add_postings-requires-clause-most c =
    let xs = c.as_slice-parts.result.now in
    let within : c.loop-part.part-index < length xs = omega arith in
    let below = docs_within arc_value xs c.loop-part.part-index c.part-item.result within c.part-item.is in
    let here = ap (λ (p : Part). length p.docs) c.deref.ensures in
    let all = ap (λ ps. length (all_docs (map arc_value ps))) c.as_slice-parts.ensures.value in
    omega (arith, below, here, all, c.loop-part.invariant.start, c.self.invariant.size, c.self.invariant.most)

pub add_postings-requires-clause-before : goal.add_postings-requires-clause-before
add_postings-requires-clause-before c =
    ends_before c.deref-live.result.now c.args.field c.args.key.now (map arc_value (take c.loop-part.part-index c.as_slice-parts.result.now)) c.loop-part.base c.loop-part.found.items c.loop-part.invariant

pub overflow_add-base : goal.overflow_add-base
overflow_add-base c =
    let xs = c.as_slice-parts.result.now in
    let within : c.loop-part.part-index < length xs = omega arith in
    let below = docs_within arc_value xs c.loop-part.part-index c.part-item.result within c.part-item.is in
    let here = ap (λ (p : Part). length p.docs) c.deref-in-loop-part.ensures in
    let docs = sym (length-map c.docs.result.now arc_value) ∙ ap length c.docs.ensures.docs in
    let all = ap (λ ps. length (all_docs (map arc_value ps))) c.as_slice-parts.ensures.value in
    omega (arith, below, here, docs, all, c.loop-part.invariant.start, c.self.invariant.size, c.self.invariant.most)

pub loop-part-preserved : goal.loop-part-preserved
loop-part-preserved c =
    let xs = c.as_slice-parts.result.now in
    let within : c.loop-part.part-index < length xs = omega arith in
    let ps = map arc_value (take c.loop-part.part-index xs) in
    let p = c.deref.result.now in
    let step = gathers_part c.deref-live.result.now c.args.field c.args.key.now ps p c.loop-part.base c.loop-part.found.items c.add_postings.new.found.items c.loop-part.invariant c.in_ok-add_postings.ensures.found in
    let docs = sym (length-map c.docs.result.now arc_value) ∙ ap length c.docs.ensures.docs ∙ ap (λ (q : Part). length q.docs) (c.deref-in-loop-part.ensures ∙ sym c.deref.ensures) in
    let list = mapped_take arc_value xs c.loop-part.part-index c.part-item.result within c.part-item.is ∙ ap (λ (q : Part). ps ++ q ∷ []) (sym c.deref.ensures) in
    subst (λ n. Gathered c.deref-live.result.now c.args.field c.args.key.now (map arc_value (take (c.loop-part.part-index + 1) xs)) (c.loop-part.base + n) c.add_postings.new.found.items) (sym docs)
    (subst (λ qs. Gathered c.deref-live.result.now c.args.field c.args.key.now qs (c.loop-part.base + length p.docs) c.add_postings.new.found.items) (sym list) step)

pub returns : goal.returns
returns c =
    let xs = c.as_slice-parts.result.now in
    c.loop-part.invariant.is
    ∙ ap (λ ys. filter_map (posting_of c.args.field c.args.key.now) (filter (λ e. contains c.deref-live.result.now e.0) (enumerate_from 0 (all_docs (map arc_value ys))))) (take_all c.loop-part.part-index xs c.loop-part-test.false ∙ c.as_slice-parts.ensures.value)
    ∙ ap (λ live. filter_map (posting_of c.args.field c.args.key.now) (filter (λ e. contains live e.0) (enumerate_from 0 (all_docs (map arc_value c.self.inside.parts.items))))) c.deref-live.ensures
    ∙ ap (λ (v : Indexed). postings_of v.seen c.args.field c.args.key.now) c.self.view_is
