use Rattle.std.proofs.Common.{◌<◌, length, get_or, map, sym, ap, ◌∙◌, arith, inl, inr}
use Rattle.std.specs.Arc.{arc_value}
use Rattle.std.proofs.lemmas.Bool.Decides.{eqb_tells}
use Rattle.doc_model.specs.Document.{Document}
use Rattle.segment_postings.proofs.SegmentLaws.{mapped_at}
use Rattle.segment_postings.proofs.segment.widest.Goals as goal

pub loop-doc-preserved : goal.loop-doc-preserved
loop-doc-preserved c = λ k d l.
    let i = c.loop-doc.doc-index in
    let within : i < length c.args.docs.now = omega arith in
    elim (eqb_tells k i) [
      | inl t ↦
          let here = ap (λ n. get_or (map arc_value c.args.docs.now) n d) t.1 ∙ mapped_at arc_value c.args.docs.now i d c.doc-item.result within ∙ ap arc_value (sym c.doc-item.is) in
          let wide = ap (λ (x : Document). length x.values) here ∙ sym (c.width.ensures ∙ ap (λ (x : Document). length x.values) c.deref.ensures) in
          omega (arith, wide, c.max-width.ensures)
      | inr t ↦ omega (arith, c.loop-doc.invariant k d (omega (arith, t.1)), c.max-width.ensures)
    ]
