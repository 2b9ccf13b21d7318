use Rattle.std.proofs.Common.{◌≤◌, ◌-◌, List, length, map, filter, take, drop, sym, ap, subst, ◌∙◌, arith}
use Rattle.segment_postings.specs.declared.laid.Term.{Term}
use Rattle.segment_postings.specs.declared.occurrence.Occurrence.{Occurrence}
use Rattle.segment_postings.specs.declared.occurrence.Place.{Place}
use Rattle.segment_postings.specs.Layout.{start_of}
use Rattle.segment_postings.specs.Spans.{takes}
use Rattle.segment_postings.specs.Terms.{Ascending}
use Rattle.segment_postings.proofs.SpanPlaces.{from_rising, from_kept, starts_in_order, starts_within, places_taken, cut_from}
use Rattle.segment_postings.proofs.laid.Laid.places_within.Goals as goal

pub from_span-from-requires : goal.from_span-from-requires
from_span-from-requires c = subst (λ (ts : List Term). Ascending (map (λ t. t.key) ts)) (sym c.as_slice.ensures.value) c.self.invariant.1

pub behind_span-behind-requires : goal.behind_span-behind-requires
behind_span-behind-requires c =
    let us = c.as_slice.result.now in
    let from = c.from_span-from.result.now in
    let up = subst (λ (ts : List Term). Ascending (map (λ t. t.key) ts)) (sym c.as_slice.ensures.value) c.self.invariant.1 in
    record {
      ascending = from_rising c.args.span.now us from c.from_span-from.ensures.split up;
      from = from_kept c.args.span.now us from c.from_span-from.ensures.behind;
    }

pub part-requires : goal.part-requires
part-requires c =
    let s = c.args.span.now in
    let ts = c.self.inside.terms.items in
    let ps = c.self.inside.places.items in
    let from = c.from_span-from.result.now in
    let behind = c.behind_span-behind.result.now in
    let cut = cut_from s c.as_slice.result.now ts from behind c.as_slice.ensures.value c.from_span-from.ensures.split c.from_span-from.ensures.behind c.behind_span-behind.ensures.split c.behind_span-behind.ensures.behind in
    let low : start_of from ps ≤ start_of behind ps = starts_in_order s ts from behind ps cut c.self.invariant.0 in
    let high : start_of behind ps ≤ length ps = starts_within s ts from behind ps cut c.self.invariant.0 in
    let first = c.start_of.ensures ∙ ap (start_of from) c.as_slice-places.ensures.value in
    let last = c.start_of-2.ensures ∙ ap (start_of behind) c.as_slice-places.ensures.value in
    let whole = ap length c.as_slice-places.ensures.value in
    record {
      order = omega (arith, first, last, low);
      within = omega (arith, last, high, whole);
    }

pub returns : goal.returns
returns c =
    let s = c.args.span.now in
    let ts = c.self.inside.terms.items in
    let ps = c.self.inside.places.items in
    let from = c.from_span-from.result.now in
    let behind = c.behind_span-behind.result.now in
    let cut = cut_from s c.as_slice.result.now ts from behind c.as_slice.ensures.value c.from_span-from.ensures.split c.from_span-from.ensures.behind c.behind_span-behind.ensures.split c.behind_span-behind.ensures.behind in
    c.part.ensures
    ∙ (λ j. take (c.start_of-2.ensures j - c.start_of.ensures j) (drop (c.start_of.ensures j) c.as_slice-places.result.now))
    ∙ ap (λ (qs : List Place). take (start_of behind qs - start_of from qs) (drop (start_of from qs) qs)) c.as_slice-places.ensures.value
    ∙ places_taken s ts from behind ps cut c.self.invariant.0
    ∙ ap (λ (os : List Occurrence). map (λ (o : Occurrence). o.place) (filter (λ (o : Occurrence). takes s o.key) os)) c.self.view_is
