use Rattle.std.proofs.Common.{List, map, sym, ap, subst, ◌∙◌}
use Rattle.segment_postings.specs.declared.laid.Term.{Term}
use Rattle.segment_postings.specs.declared.occurrence.Occurrence.{Occurrence}
use Rattle.segment_postings.specs.declared.occurrence.Place.{Place}
use Rattle.segment_postings.specs.Segments.{with_key}
use Rattle.segment_postings.specs.Terms.{Ascending}
use Rattle.segment_postings.specs.Layout.{IsLaid, first_places}
use Rattle.segment_postings.proofs.Laying.{split_from, rest_laid, found_key, no_key}
use Rattle.segment_postings.proofs.laid.Laid.places.Goals as goal

pub from_term-rest-requires : goal.from_term-rest-requires
from_term-rest-requires c = subst (λ (ts : List Term). Ascending (map (λ t. t.key) ts)) (sym c.as_slice.ensures.value) c.self.invariant.1

pub first_places-requires : goal.first_places-requires
first_places-requires c =
    let ts = c.self.inside.terms.items in
    let rest = c.from_term-rest.result.now in
    let split = split_from c.args.key.now c.as_slice.result.now ts rest c.as_slice.ensures.value c.from_term-rest.ensures.split c.from_term-rest.ensures.behind in
    subst (λ (ps : List Place). IsLaid rest ps) (sym c.as_slice-2.ensures.value) (rest_laid c.args.key.now ts rest c.self.inside.places.items split c.self.invariant.0)

pub returns-then-not-begins_with : goal.returns-then-not-begins_with
returns-then-not-begins_with c =
    let ts = c.self.inside.terms.items in
    let rest = c.from_term-rest.result.now in
    let split = split_from c.args.key.now c.as_slice.result.now ts rest c.as_slice.ensures.value c.from_term-rest.ensures.split c.from_term-rest.ensures.behind in
    no_key c.args.key.now ts rest c.self.inside.places.items split c.self.invariant.1 (sym c.begins_with.ensures ∙ c.if-not-begins_with.true)
    ∙ ap (λ (os : List Occurrence). map (λ (o : Occurrence). o.place) (with_key c.args.key.now os)) c.self.view_is

pub returns : goal.returns
returns c =
    let ts = c.self.inside.terms.items in
    let rest = c.from_term-rest.result.now in
    let split = split_from c.args.key.now c.as_slice.result.now ts rest c.as_slice.ensures.value c.from_term-rest.ensures.split c.from_term-rest.ensures.behind in
    c.first_places.ensures
    ∙ ap (first_places rest) c.as_slice-2.ensures.value
    ∙ found_key c.args.key.now ts rest c.self.inside.places.items split c.self.invariant.1 (sym c.begins_with.ensures ∙ c.if-not-begins_with.false)
    ∙ ap (λ (os : List Occurrence). map (λ (o : Occurrence). o.place) (with_key c.args.key.now os)) c.self.view_is
