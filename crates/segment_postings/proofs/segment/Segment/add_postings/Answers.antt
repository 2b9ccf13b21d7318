use Rattle.std.proofs.Common.{◌≡◌, ◌+◌, ◌≤◌, ◌<◌, ◌++◌, List, length, map, filter, sym, ap, subst, ◌∙◌, All}
use Rattle.std.specs.Arc.{arc_value}
use Rattle.std.specs.FinSet.{contains}
use Rattle.std.specs.List.{enumerate_from, filter_map}
use Rattle.doc_model.specs.Document.{Document}
use Rattle.doc_sets.specs.declared.TheConstants.{MAX_DOCS}
use Rattle.segment_postings.specs.declared.occurrence.Occurrence.{Occurrence}
use Rattle.segment_postings.specs.declared.occurrence.Place.{Place}
use Rattle.segment_postings.specs.Groups.{gathered, has_places}
use Rattle.segment_postings.specs.Postings.{posting_of}
use Rattle.segment_postings.specs.Segments.{Part, field_at, with_key}
use Rattle.segment_postings.proofs.SegmentLaws.{key_below, part_gathers}
use Rattle.segment_postings.proofs.segment.Segment.add_postings.Goals as goal

pub gather-requires : goal.gather-requires
gather-requires c =
    let fields = c.self.inside.fields.items in
    let ds = map arc_value c.self.inside.docs.items in
    let same = c.places_in-places.ensures ∙ ap (λ fs. map (λ (o : Occurrence). o.place) (with_key c.args.key.now (field_at fs c.args.field))) c.as_slice.ensures.value in
    let docs_is : ds ≡ c.args.self.now.docs = ap (λ (p : Part). p.docs) c.self.view_is in
    let most = subst (λ (d : List Document). c.args.base + length d ≤ MAX_DOCS) (sym docs_is) c.requires.most in
    subst (All (λ (p : Place). c.args.base + p.doc < MAX_DOCS)) (sym same)
    (key_below ds fields c.args.field c.args.base c.args.key.now c.self.invariant.1 most)

pub returns : goal.returns
returns c =
    let fields = c.self.inside.fields.items in
    let ds = map arc_value c.self.inside.docs.items in
    let same = c.places_in-places.ensures ∙ ap (λ fs. map (λ (o : Occurrence). o.place) (with_key c.args.key.now (field_at fs c.args.field))) c.as_slice.ensures.value in
    let docs_is : ds ≡ c.args.self.now.docs = ap (λ (p : Part). p.docs) c.self.view_is in
    record {
      found = c.in_ok-gather.ensures
          ∙ ap (gathered c.args.live.now c.args.base (has_places c.args.key.now) c.args.found.now.items) same
          ∙ part_gathers ds fields c.args.field c.args.base c.args.key.now c.args.live.now c.args.found.now.items c.self.invariant.1 c.requires.before
          ∙ ap (λ (d : List Document). c.args.found.now.items ++ filter_map (posting_of c.args.field c.args.key.now) (filter (λ e. contains c.args.live.now e.0) (enumerate_from c.args.base d))) docs_is;
    }
