use Rattle.std.proofs.Common.{◌≡◌, ◌+◌, ◌≤◌, ◌<◌, ◌++◌, List, length, map, sym, ap, subst, ◌∙◌, All}
use Rattle.std.specs.Arc.{arc_value}
use Rattle.doc_model.specs.Document.{Document}
use Rattle.doc_sets.specs.declared.TheConstants.{MAX_DOCS}
use Rattle.segment_postings.specs.declared.occurrence.Occurrence.{Occurrence}
use Rattle.segment_postings.specs.declared.occurrence.Place.{Place}
use Rattle.segment_postings.specs.Positions.{positions_among, positions_at}
use Rattle.segment_postings.specs.Segments.{Part, field_at, with_key}
use Rattle.segment_postings.proofs.SegmentLaws.{key_below}
use Rattle.segment_postings.proofs.PositionsGathered.{part_positions}
use Rattle.segment_postings.proofs.segment.Segment.add_positions.Goals as goal

pub add_positions-requires : goal.add_positions-requires
add_positions-requires c =
    let fields = c.self.inside.fields.items in
    let ds = map arc_value c.self.inside.docs.items in
    let same = c.places_in-places.ensures ∙ ap (λ fs. map (λ (o : Occurrence). o.place) (with_key c.args.key.now (field_at fs c.args.field))) c.as_slice.ensures.value in
    let docs_is : ds ≡ c.args.self.now.docs = ap (λ (p : Part). p.docs) c.self.view_is in
    let most = subst (λ (d : List Document). c.args.base + length d ≤ MAX_DOCS) (sym docs_is) c.requires in
    subst (All (λ (p : Place). c.args.base + p.doc < MAX_DOCS)) (sym same)
    (key_below ds fields c.args.field c.args.base c.args.key.now c.self.invariant.1 most)

pub returns : goal.returns
returns c =
    let fields = c.self.inside.fields.items in
    let ds = map arc_value c.self.inside.docs.items in
    let same = c.places_in-places.ensures ∙ ap (λ fs. map (λ (o : Occurrence). o.place) (with_key c.args.key.now (field_at fs c.args.field))) c.as_slice.ensures.value in
    let docs_is : ds ≡ c.args.self.now.docs = ap (λ (p : Part). p.docs) c.self.view_is in
    c.in_ok-add_positions.ensures
    ∙ ap (λ ns. c.args.found.now.items ++ ns) (ap (positions_at c.args.live.now c.args.base) same ∙ part_positions ds fields c.args.field c.args.base c.args.key.now c.args.live.now c.self.invariant.1)
    ∙ ap (λ (d : List Document). c.args.found.now.items ++ positions_among c.args.live.now c.args.base c.args.field c.args.key.now d) docs_is
