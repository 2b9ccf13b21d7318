use Rattle.std.proofs.Common.{◌<◌, length, get_or, map, Some, sym, ap, ◌∙◌, arith}
use Rattle.std.specs.Prelude.{slice_get}
use Rattle.std.specs.Arc.{arc_value}
use Rattle.std.proofs.lemmas.List.{length-map}
use Rattle.segment_postings.specs.Segments.{Part}
use Rattle.segment_postings.specs.Views.{Indexed}
use Rattle.segment_postings.proofs.SegmentLaws.{mapped_at}
use Rattle.segment_postings.proofs.Packed.{held_at}
use Rattle.segment_postings.proofs.view.View.held.Goals as goal

pub returns : goal.returns
returns c =
    let xs = c.self.inside.parts.items in
    let value = c.as_slice-parts.ensures.value in
    let keys = ap (λ (v : Indexed). length v.keys) c.self.view_is in
    let one = length-map (map arc_value xs) (λ (p : Part). p.keys) in
    let two = length-map xs arc_value in
    let within : c.args.at < length xs = omega (arith, keys, one, two, c.requires) in
    let docs = sym (length-map c.docs-docs.result.now arc_value) ∙ ap length c.docs-docs.ensures.docs ∙ ap (λ (q : Part). length q.docs) c.deref.ensures in
    let is = c.index-parts-at.is ∙ ap (λ ys. get_or ys c.args.at c.index-parts-at.result) value in
    ap (λ (v : Indexed). slice_get v.held c.args.at) (sym c.self.view_is)
    ∙ held_at (λ (p : Part). length p.docs) (map arc_value xs) c.args.at (arc_value c.index-parts-at.result) (omega (arith, two, within)) (ap arc_value is ∙ sym (mapped_at arc_value xs c.args.at (arc_value c.index-parts-at.result) c.index-parts-at.result within))
    ∙ ap Some (sym docs)
