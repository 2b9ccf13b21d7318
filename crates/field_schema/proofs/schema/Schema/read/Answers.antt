use Rattle.std.proofs.Common.{◌≡◌, ◌∙◌, ◌≤◌, ap, sym, subst, length, map, Some}
use Rattle.field_schema.specs.ReadSchema.{key_in}
use Rattle.field_schema.proofs.FieldFaults.{read_most, read_is}
use Rattle.serde_json.specs.View.{view}
use Rattle.field_schema.proofs.schema.Schema.read.Goals as goal

pub key_place-requires : goal.key_place-requires
key_place-requires c =
    subst (λ l. length l ≤ 64) (sym c.as_slice.ensures.value)
    (read_most c.in_ok-fields.fields.items (map view c.in-Some.list.now) c.in_ok-fields.ensures)

pub invariant_of-result : goal.invariant_of-result
invariant_of-result c =
    let key : key_in c.in_ok-fields.fields.items (view c.args.value.now) ≡ Some c.in-Some-key_place.key =
    ap (λ l. key_in l (view c.args.value.now)) (sym c.as_slice.ensures.value) ∙ sym c.in-Some-key_place.ensures in
    read_is c.in_ok-fields.fields.items (map view c.in-Some.list.now) (view c.args.value.now) c.in-Some-key_place.key c.in_ok-fields.ensures key
