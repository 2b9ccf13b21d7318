use Rattle.std.proofs.Common.{List, take, fold, filter, map, sym, ap, subst, ◌∙◌}
use Rattle.segment_postings.specs.declared.laid.Term.{Term}
use Rattle.segment_postings.specs.declared.occurrence.Occurrence.{Occurrence}
use Rattle.segment_postings.specs.Terms.{Ascending, put_key}
use Rattle.segment_postings.proofs.SegmentLaws.{filter-map}
use Rattle.segment_postings.proofs.ViewLoops.{late}
use Rattle.segment_postings.proofs.Laying.{split_from, rest_rising, terms_sorted, each_once}
use Rattle.segment_postings.proofs.laid.Laid.add_terms.Goals as goal

pub from_term-rest-requires : goal.from_term-rest-requires
from_term-rest-requires c = subst (λ (ts : List Term). Ascending (map (λ t. t.key) ts)) (sym c.as_slice.ensures.value) c.self.invariant.1

pub join-requires-clause-sorted : goal.join-requires-clause-sorted
join-requires-clause-sorted c =
    let ts = c.self.inside.terms.items in
    let rest = c.from_term-rest.result.now in
    let split = split_from c.args.from.now c.as_slice.result.now ts rest c.as_slice.ensures.value c.from_term-rest.ensures.split c.from_term-rest.ensures.behind in
    terms_sorted rest (rest_rising c.args.from.now ts rest split c.self.invariant.1)

pub returns : goal.returns
returns c =
    let ts = c.self.inside.terms.items in
    let late_keys = late c.args.from.now in
    record {
      found = c.in_ok-join.ensures.found
          ∙ ap (λ (us : List Term). take c.args.most (fold put_key c.args.found.now.items (map (λ t. t.key) us))) (c.from_term-rest.ensures.behind ∙ ap (filter (λ (t : Term). late_keys t.key)) c.as_slice.ensures.value)
          ∙ ap (take c.args.most) (
          ap (fold put_key c.args.found.now.items) (sym (filter-map (λ (t : Term). t.key) late_keys ts))
          ∙ sym (each_once c.args.from.now ts c.self.inside.places.items c.args.found.now.items c.self.invariant.0)
          ∙ ap (λ (os : List Occurrence). fold put_key c.args.found.now.items (filter late_keys (map (λ o. o.key) os))) c.self.view_is);
      ascending = c.in_ok-join.ensures.ascending;
      few = c.in_ok-join.ensures.few;
    }
