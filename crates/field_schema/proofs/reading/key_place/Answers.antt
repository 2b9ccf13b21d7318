use Rattle.std.proofs.Common.{◌≡◌, ◌∙◌, sym, subst, length, ◌&&◌, arith}
use Rattle.field_schema.specs.Bytes.{bytes_eq}
use Rattle.field_schema.specs.Schema.{can_be_key}
use Rattle.field_schema.proofs.Positions.{NoneBefore, position_at, position_nowhere}
use Rattle.field_schema.proofs.FieldFaults.{key_in-is, key_here}
use Rattle.serde_json.specs.View.{view}
use Rattle.field_schema.proofs.reading.key_place.Goals as goal

pub returns-then-can_be_key : goal.returns-then-can_be_key
returns-then-can_be_key c =
    position_at (λ f. bytes_eq f.name c.in_ok-name.name.now && can_be_key f) c.args.fields.now c.loop-i.i c.index-fields-i.result (omega arith) c.loop-i.invariant
    (key_here c.args.fields.now c.loop-i.i c.index-fields-i.result c.get.result.now c.in_ok-name.name.now c.index-fields-i.is c.get.ensures (sym c.if-eq.ensures) (sym c.if-can_be_key.ensures))
    ∙ sym (key_in-is c.args.fields.now (view c.args.value.now) c.in_ok-name.name.now (sym c.in_ok-name.ensures))

pub returns : goal.returns
returns c =
    let all : c.loop-i.i ≡ length c.args.fields.now = omega arith in
    position_nowhere (λ f. bytes_eq f.name c.in_ok-name.name.now && can_be_key f) c.args.fields.now
    (subst (NoneBefore (λ f. bytes_eq f.name c.in_ok-name.name.now && can_be_key f) c.args.fields.now) all c.loop-i.invariant)
    ∙ sym (key_in-is c.args.fields.now (view c.args.value.now) c.in_ok-name.name.now (sym c.in_ok-name.ensures))
