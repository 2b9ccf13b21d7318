use Rattle.std.proofs.Common.{◌≤◌, length, map, sym, ap, subst, ◌∙◌, arith}
use Rattle.std.specs.Arc.{arc_value}
use Rattle.std.proofs.lemmas.List.{length-map}
use Rattle.doc_sets.specs.declared.TheConstants.{MAX_DOCS}
use Rattle.segment_postings.specs.Numbered.{docs}
use Rattle.segment_postings.specs.Segments.{Part}
use Rattle.segment_postings.specs.Views.{Indexed, all_docs, numbered, IsPacked}
use Rattle.segment_postings.proofs.Packed.{same_packs, same_merges, is_packing, same_docs, new_size, packed_view, is_packed}
use Rattle.segment_postings.proofs.view.View.merge.Goals as goal

pub packed-requires-clause-both : goal.packed-requires-clause-both
packed-requires-clause-both c =
    let keys = ap (λ (v : Indexed). length v.keys) c.self.view_is in
    let one = length-map (map arc_value c.self.inside.parts.items) (λ (p : Part). p.keys) in
    let two = length-map c.self.inside.parts.items arc_value in
    let value = ap length c.as_slice-parts.ensures.value in
    omega (arith, keys, one, two, value, c.requires)

pub packed-requires-clause-most : goal.packed-requires-clause-most
packed-requires-clause-most c =
    subst (λ ys. length (all_docs (map arc_value ys)) ≤ MAX_DOCS) (sym c.as_slice-parts.ensures.value) (subst (λ n. n ≤ MAX_DOCS) c.self.invariant.size c.self.invariant.most)

pub moved-requires : goal.moved-requires
moved-requires c = is_packing (arc_value c.self.inside.live) c.self.inside.size (map arc_value c.self.inside.parts.items) c.args.at c.in_ok-packing.part.docs c.in_ok-packing.packing c.self.invariant (same_packs arc_value (arc_value c.self.inside.live) c.as_slice-parts.result.now c.self.inside.parts.items c.args.at c.in_ok-packing.part.docs c.in_ok-packing.packing c.as_slice-parts.ensures.value c.in_ok-packing.ensures.packs)

pub merged-requires-clause-both : goal.merged-requires-clause-both
merged-requires-clause-both c =
    let keys = ap (λ (v : Indexed). length v.keys) c.self.view_is in
    let one = length-map (map arc_value c.self.inside.parts.items) (λ (p : Part). p.keys) in
    let two = length-map c.self.inside.parts.items arc_value in
    let value = ap length c.as_slice-parts.ensures.value in
    omega (arith, keys, one, two, value, c.requires)

pub overflow_sub-size : goal.overflow_sub-size
overflow_sub-size c = (is_packing (arc_value c.self.inside.live) c.self.inside.size (map arc_value c.self.inside.parts.items) c.args.at c.in_ok-packing.part.docs c.in_ok-packing.packing c.self.invariant (same_packs arc_value (arc_value c.self.inside.live) c.as_slice-parts.result.now c.self.inside.parts.items c.args.at c.in_ok-packing.part.docs c.in_ok-packing.packing c.as_slice-parts.ensures.value c.in_ok-packing.ensures.packs)).few

pub overflow_sub-size-2 : goal.overflow_sub-size-2
overflow_sub-size-2 c = let p = is_packing (arc_value c.self.inside.live) c.self.inside.size (map arc_value c.self.inside.parts.items) c.args.at c.in_ok-packing.part.docs c.in_ok-packing.packing c.self.invariant (same_packs arc_value (arc_value c.self.inside.live) c.as_slice-parts.result.now c.self.inside.parts.items c.args.at c.in_ok-packing.part.docs c.in_ok-packing.packing c.as_slice-parts.ensures.value c.in_ok-packing.ensures.packs) in omega (arith, p.few, p.within)

pub invariant_of-result : goal.invariant_of-result
invariant_of-result c =
    packed_view (arc_value c.self.inside.live) (arc_value c.in_ok-live.live) c.self.inside.size (map arc_value c.self.inside.parts.items) (map arc_value c.in_ok-parts.parts.items) c.args.at
    c.in_ok-packing.part.docs c.in_ok-packing.packing c.self.invariant (same_packs arc_value (arc_value c.self.inside.live) c.as_slice-parts.result.now c.self.inside.parts.items c.args.at c.in_ok-packing.part.docs c.in_ok-packing.packing c.as_slice-parts.ensures.value c.in_ok-packing.ensures.packs) c.in_ok-live.ensures (same_merges arc_value c.as_slice-parts.result.now c.self.inside.parts.items (map arc_value c.in_ok-parts.parts.items) c.args.at c.in_ok-packing.part.docs c.as_slice-parts.ensures.value c.in_ok-parts.ensures)

pub returns : goal.returns
returns c =
    let old = map arc_value c.self.inside.parts.items in
    let new = map arc_value c.in_ok-parts.parts.items in
    let stay = c.in_ok-packing.part.docs in
    let p = c.in_ok-packing.packing in
    let m = same_merges arc_value c.as_slice-parts.result.now c.self.inside.parts.items (map arc_value c.in_ok-parts.parts.items) c.args.at c.in_ok-packing.part.docs c.as_slice-parts.ensures.value c.in_ok-parts.ensures in
    let is = same_packs arc_value (arc_value c.self.inside.live) c.as_slice-parts.result.now c.self.inside.parts.items c.args.at c.in_ok-packing.part.docs c.in_ok-packing.packing c.as_slice-parts.ensures.value c.in_ok-packing.ensures.packs in
    let keys = ap (λ (v : Indexed). length v.keys) c.self.view_is in
    let old_keys = length-map old (λ (q : Part). q.keys) in
    let new_keys = length-map new (λ (q : Part). q.keys) in
    let size = new_size (arc_value c.self.inside.live) c.self.inside.size old new c.args.at stay p c.self.invariant is m in
    let seen = ap (λ (v : Indexed). v.seen.size) c.self.view_is in
    record {
      docs = same_docs (arc_value c.self.inside.live) (arc_value c.in_ok-live.live) c.self.inside.size old new c.args.at stay p c.self.invariant is c.in_ok-live.ensures m ∙ ap (λ (v : Indexed). docs v.seen) c.self.view_is;
      size = omega (arith, size, seen, c.self.invariant.size);
      segments = omega (arith, keys, old_keys, new_keys, m.fewer);
      packed = subst (λ (v : Indexed). IsPacked v c.args.at (numbered (arc_value c.in_ok-live.live) (all_docs new))) c.self.view_is
          (is_packed (arc_value c.self.inside.live) (arc_value c.in_ok-live.live) c.self.inside.size old new c.args.at stay p c.self.invariant is c.in_ok-live.ensures m);
    }
