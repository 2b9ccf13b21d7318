use Rattle.std.proofs.Common.{◌+◌, ◌≤◌, ◌<◌, List, length, map, sym, ap, subst, ◌∙◌, All}
use Rattle.std.specs.Arc.{arc_value}
use Rattle.std.specs.FinSet.{union}
use Rattle.field_schema.specs.Keys.{key_eq}
use Rattle.doc_model.specs.Document.{Document}
use Rattle.doc_sets.specs.declared.TheConstants.{MAX_DOCS}
use Rattle.segment_postings.specs.declared.occurrence.Place.{Place}
use Rattle.segment_postings.specs.Segments.{Part, field_at}
use Rattle.segment_postings.specs.Spans.{numbers_among}
use Rattle.segment_postings.proofs.SpanNumbers.{places_taken, adds_part, taken_below}
use Rattle.segment_postings.proofs.segment.Segment.add_numbers.Goals as goal

pub add_numbers-requires-clause-documents : goal.add_numbers-requires-clause-documents
add_numbers-requires-clause-documents c =
    let fields = c.self.inside.fields.items in
    let ds = map arc_value c.self.inside.docs.items in
    let same = c.places_in-places.ensures ∙ ap (λ fs. places_taken (key_eq c.args.key.now) (field_at fs c.args.field)) c.as_slice.ensures.value in
    let docs_is = ap (λ (p : Part). p.docs) c.self.view_is in
    let most = subst (λ (d : List Document). c.args.base + length d ≤ MAX_DOCS) (sym docs_is) c.requires.documents in
    subst (All (λ (p : Place). c.args.base + p.doc < MAX_DOCS)) (sym same)
    (taken_below ds fields c.args.field c.args.base (key_eq c.args.key.now) c.self.invariant.1 most)

pub returns : goal.returns
returns c =
    let fields = c.self.inside.fields.items in
    let ds = map arc_value c.self.inside.docs.items in
    let same = c.places_in-places.ensures ∙ ap (λ fs. places_taken (key_eq c.args.key.now) (field_at fs c.args.field)) c.as_slice.ensures.value in
    adds_part ds fields c.args.field c.args.base (key_eq c.args.key.now) c.args.found.now _ _ c.self.invariant.1 same c.in_ok-add_numbers.ensures
    ∙ ap (λ (p : Part). union c.args.found.now (numbers_among c.args.base c.args.field (key_eq c.args.key.now) p.docs)) c.self.view_is
