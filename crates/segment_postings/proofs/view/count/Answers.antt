use Rattle.std.proofs.Common.{◌<◌, length, length-append, map, take, sym, ap, ◌∙◌, arith}
use Rattle.std.specs.Arc.{arc_value}
use Rattle.std.proofs.lemmas.List.{length-map}
use Rattle.segment_postings.specs.Segments.{Part}
use Rattle.segment_postings.specs.Views.{all_docs}
use Rattle.segment_postings.proofs.Joining.{take_all}
use Rattle.segment_postings.proofs.ViewLoops.{docs_within, docs_more, mapped_take}
use Rattle.segment_postings.proofs.view.count.Goals as goal

pub overflow_add-total : goal.overflow_add-total
overflow_add-total c =
    let xs = c.args.parts.now in
    let within : c.loop-part.part-index < length xs = omega arith in
    let below = docs_within arc_value xs c.loop-part.part-index c.part-item.result within c.part-item.is in
    let docs = sym (length-map c.docs.result.now arc_value) ∙ ap length c.docs.ensures.docs ∙ ap (λ (q : Part). length q.docs) c.deref.ensures in
    omega (arith, below, docs, c.loop-part.invariant, c.requires)

pub loop-part-preserved : goal.loop-part-preserved
loop-part-preserved c =
    let xs = c.args.parts.now in
    let within : c.loop-part.part-index < length xs = omega arith in
    let ps = map arc_value (take c.loop-part.part-index xs) in
    let here = ap length (ap all_docs (mapped_take arc_value xs c.loop-part.part-index c.part-item.result within c.part-item.is) ∙ docs_more ps (arc_value c.part-item.result)) ∙ length-append (all_docs ps) ((arc_value c.part-item.result).docs) in
    let docs = sym (length-map c.docs.result.now arc_value) ∙ ap length c.docs.ensures.docs ∙ ap (λ (q : Part). length q.docs) c.deref.ensures in
    omega (arith, here, docs, c.loop-part.invariant)

pub returns : goal.returns
returns c = c.loop-part.invariant ∙ ap (λ ys. length (all_docs (map arc_value ys))) (take_all c.loop-part.part-index c.args.parts.now c.loop-part-test.false)
