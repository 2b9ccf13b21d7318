use Rattle.std.proofs.Common.{◌≡◌, ◌≤◌, map, sym, subst, arith, rules}
use Rattle.std.specs.Arc.{arc_value}
use Rattle.segment_postings.specs.Segments.{IsIndex}
use Rattle.segment_postings.proofs.SegmentLaws.{FieldsUpTo, one_field_more, all_fields}
use Rattle.segment_postings.proofs.segment.index_all.Goals as goal

pub loop-field-preserved : goal.loop-field-preserved
loop-field-preserved c =
    let ds = map arc_value c.args.docs.now in
    subst (FieldsUpTo (IsIndex ds) _) (sym c.in_ok-push.ensures.items)
    (one_field_more (IsIndex ds) c.loop-field.field c.loop-field.fields.items _ c.loop-field.invariant c.in_ok-index.ensures)

pub returns : goal.returns
returns c =
    let same : c.in-Ok.width ≡ c.widest.result = search rules in
    let most : c.widest.result ≤ c.loop-field.field = omega arith in
    all_fields (map arc_value c.args.docs.now) c.loop-field.field c.loop-field.fields.items c.loop-field.invariant (λ k d l. omega (arith, c.widest.ensures k d l))
