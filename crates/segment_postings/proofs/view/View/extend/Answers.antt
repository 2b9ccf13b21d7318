use Rattle.std.proofs.Common.{◌≡◌, ◌+◌, ◌≤◌, length, map, sym, ap, subst, ◌∙◌, arith}
use Rattle.std.specs.Arc.{arc_value}
use Rattle.std.proofs.lemmas.List.{length-map}
use Rattle.doc_sets.specs.declared.TheConstants.{MAX_DOCS}
use Rattle.segment_postings.specs.Numbered.{extended}
use Rattle.segment_postings.specs.Views.{Indexed, all_docs, IsView, AddsNumbers, AddsPart}
use Rattle.segment_postings.proofs.ViewLaws.{added_view, added_docs}
use Rattle.segment_postings.proofs.view.View.extend.Goals as goal
use Rattle.segment_postings.proofs.view.View.extend.Goals.{In_ok-parts}

count_is : (c : In_ok-parts) → c.len-count.result ≡ length (map arc_value c.args.added.items)
count_is c = let len : c.len-count.result ≡ length c.args.added.items = cc in len ∙ sym (length-map c.args.added.items arc_value)

adds : (c : In_ok-parts) → AddsNumbers (arc_value c.self.inside.live) c.args.deleted.now c.self.inside.size (length (map arc_value c.args.added.items)) (arc_value c.in_ok-live.live)
adds c = subst (λ n. AddsNumbers (arc_value c.self.inside.live) c.args.deleted.now c.self.inside.size n (arc_value c.in_ok-live.live)) (count_is c) c.in_ok-live.ensures

more : (c : In_ok-parts) → AddsPart (map arc_value c.self.inside.parts.items) (map arc_value c.args.added.items) (map arc_value c.in_ok-parts.parts.items)
more c =
    subst (λ ds. AddsPart (map arc_value c.self.inside.parts.items) ds (map arc_value c.in_ok-parts.parts.items)) c.in_ok-part.ensures.docs
    (subst (λ ps. AddsPart (map arc_value ps) c.in_ok-part.part.docs (map arc_value c.in_ok-parts.parts.items)) c.as_slice.ensures.value c.in_ok-parts.ensures)

most : (c : In_ok-parts) → c.self.inside.size + length (map arc_value c.args.added.items) ≤ MAX_DOCS
most c =
    let seen : length (all_docs (map arc_value c.self.inside.parts.items)) ≡ c.args.self.now.seen.size = ap (λ (v : Indexed). v.seen.size) c.self.view_is in
    omega (arith, c.self.invariant.size, seen, length-map c.args.added.items arc_value, c.requires)

pub invariant_of-result : goal.invariant_of-result
invariant_of-result c =
    subst (λ n. IsView (arc_value c.in_ok-live.live) (c.self.inside.size + n) (map arc_value c.in_ok-parts.parts.items)) (sym (count_is c))
    (added_view (arc_value c.self.inside.live) c.args.deleted.now (arc_value c.in_ok-live.live) c.self.inside.size (map arc_value c.self.inside.parts.items) (map arc_value c.in_ok-parts.parts.items) (map arc_value c.args.added.items) c.self.invariant (adds c) (more c) (most c))

pub returns-clause-seen : goal.returns-clause-seen
returns-clause-seen c =
    added_docs (arc_value c.self.inside.live) c.args.deleted.now (arc_value c.in_ok-live.live) c.self.inside.size (map arc_value c.self.inside.parts.items) (map arc_value c.in_ok-parts.parts.items) (map arc_value c.args.added.items) c.self.invariant (adds c) (more c)
    ∙ ap (λ (v : Indexed). extended v.seen c.args.deleted.now (map arc_value c.args.added.items)) c.self.view_is
