use Rattle.std.proofs.Common.{◌≡◌, ◌+◌, ◌<◌, true, List, length, get_or, map, take, Some, sym, ap, subst, ◌∙◌, arith}
use Rattle.std.specs.Arc.{arc_value}
use Rattle.std.specs.FinSet.{contains}
use Rattle.std.proofs.lemmas.List.{length-map}
use Rattle.std.proofs.Common.{length-append}
use Rattle.doc_model.specs.Document.{Document}
use Rattle.segment_postings.specs.Numbered.{IsLive, doc_at}
use Rattle.segment_postings.specs.Segments.{Part}
use Rattle.segment_postings.specs.Views.{Indexed, all_docs}
use Rattle.segment_postings.proofs.Joining.{take_all}
use Rattle.segment_postings.proofs.SegmentLaws.{mapped_at}
use Rattle.segment_postings.proofs.ViewLaws.{live_within}
use Rattle.segment_postings.proofs.ViewLoops.{mapped_take, docs_more}
use Rattle.segment_postings.proofs.DocsOfViews.{live_is_in, doc_at_is, doc_in_part}
use Rattle.segment_postings.proofs.view.View.doc.Goals as goal

pub loop-part-preserved : goal.loop-part-preserved
loop-part-preserved c =
    let xs = c.as_slice-parts.result.now in
    let within : c.loop-part.part-index < length xs = omega arith in
    let ps = map arc_value (take c.loop-part.part-index xs) in
    let here = ap length (ap all_docs (mapped_take arc_value xs c.loop-part.part-index c.part-item.result within c.part-item.is) ∙ docs_more ps (arc_value c.part-item.result)) ∙ length-append (all_docs ps) ((arc_value c.part-item.result).docs) in
    let docs = sym (length-map c.docs-docs.result.now arc_value) ∙ ap length c.docs-docs.ensures.docs ∙ ap (λ (q : Part). length q.docs) c.deref.ensures in
    omega (arith, here, docs, c.loop-part.invariant, c.if-place-docs.false)

pub returns-then-place-docs : goal.returns-then-place-docs
returns-then-place-docs c =
    let xs = c.as_slice-parts.result.now in
    let within : c.loop-part.part-index < length xs = omega arith in
    let live = (arc_value c.self.inside.live) in
    let parts = map arc_value c.self.inside.parts.items in
    let n = c.args.number in
    let d : Document = arc_value c.index-docs-place.result in
    let docs = ap length (sym c.docs-docs.ensures.docs) ∙ length-map c.docs-docs.result.now arc_value in
    let deref = ap (λ (q : Part). length q.docs) c.deref.ensures in
    let low : c.loop-part.place < length ((arc_value c.part-item.result).docs) = omega (arith, docs, deref, c.if-place-docs.true) in
    let alive : contains live n ≡ true = live_is_in live (all_docs parts) n (subst (λ (v : Indexed). IsLive v.seen n) (sym c.self.view_is) c.requires) in
    ap (λ (v : Indexed). doc_at v.seen n) (sym c.self.view_is)
    ∙ doc_at_is live (all_docs parts) n d (live_within live c.self.inside.size parts c.self.invariant n alive) alive
    ∙ ap Some (
    ap (λ m. get_or (all_docs parts) m d) (sym c.loop-part.invariant)
    ∙ ap (λ ys. get_or (all_docs (map arc_value ys)) (length (all_docs (map arc_value (take c.loop-part.part-index xs))) + c.loop-part.place) d) (sym c.as_slice-parts.ensures.value)
    ∙ doc_in_part arc_value xs c.loop-part.part-index c.part-item.result c.loop-part.place d within c.part-item.is low
    ∙ ap (λ (ds : List Document). get_or ds c.loop-part.place d) (sym (c.docs-docs.ensures.docs ∙ ap (λ (q : Part). q.docs) c.deref.ensures))
    ∙ mapped_at arc_value c.docs-docs.result.now c.loop-part.place d c.index-docs-place.result c.if-place-docs.true
    ∙ ap arc_value (sym c.index-docs-place.is))

pub unreachable-requires : goal.unreachable-requires
unreachable-requires c =
    let xs = c.as_slice-parts.result.now in
    let live = (arc_value c.self.inside.live) in
    let parts = map arc_value c.self.inside.parts.items in
    let n = c.args.number in
    let alive : contains live n ≡ true = live_is_in live (all_docs parts) n (subst (λ (v : Indexed). IsLive v.seen n) (sym c.self.view_is) c.requires) in
    let low = live_within live c.self.inside.size parts c.self.invariant n alive in
    let all = ap (λ ys. length (all_docs (map arc_value ys))) (take_all c.loop-part.part-index xs c.loop-part-test.false ∙ c.as_slice-parts.ensures.value) in
    omega (arith, low, all, c.loop-part.invariant)
