use Rattle.std.proofs.Common.{List, map, ap, sym, subst, ◌∙◌}
use Rattle.std.specs.Arc.{arc_value}
use Rattle.std.specs.List.Sorted.{ties, IsSortedByKey}
use Rattle.std.specs.Ordering.{is_lt}
use Rattle.segment_postings.specs.declared.occurrence.Occurrence.{Occurrence}
use Rattle.segment_postings.specs.Segments.{IsIndex, with_key, occurrence}
use Rattle.field_schema.specs.Keys.{key_eq, key_cmp}
use Rattle.segment_postings.proofs.KeyOrder.{ties_are_equal, filter_alike}
use Rattle.segment_postings.proofs.occurrence.index.Goals as goal

pub new-requires : goal.new-requires
new-requires c = subst (IsSortedByKey (λ (o : Occurrence). o.key) key_cmp) (sym c.as_slice.ensures.value) c.in_ok-sort.ensures.sorted

pub returns : goal.returns
returns c = subst (λ (os : List Occurrence). IsIndex (map arc_value c.args.docs.now) c.args.field os) (sym (c.in_ok-laid.ensures ∙ c.as_slice.ensures.value)) (record {
  same = λ k.
      let alike = filter_alike (λ (o : Occurrence). ties (λ x y. is_lt (key_cmp x.key y.key)) (occurrence 0 0 (0, k)) o) (λ o. key_eq k o.key) (λ o. ties_are_equal k o.key) in
      sym (alike _) ∙ c.sort.ensures.stable (occurrence 0 0 (0, k)) ∙ alike _ ∙ ap (with_key k) c.in_ok-found.ensures;
})
