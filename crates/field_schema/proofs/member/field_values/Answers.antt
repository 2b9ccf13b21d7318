use Rattle.std.proofs.Common.{◌≡◌, ◌∙◌, ap, sym, map}
use Rattle.field_schema.specs.ReadSchema.{field_data}
use Rattle.field_schema.proofs.Shapes.{field_data_at, shaped, unshaped_empty, unshaped_bad}
use Rattle.serde_json.specs.View.{view}
use Rattle.field_schema.proofs.member.field_values.Goals as goal
use Rattle.field_schema.proofs.member.field_values.Goals.{then-is_empty-via-then-is_empty, then-is_empty-via-else-is_empty+then-not-are_shaped}

pub returns-then-is_empty : goal.returns-then-is_empty
returns-then-is_empty c =
    let is : map view c.as_slice-list.result.now ≡ field_data (view c.args.value.now) = ap (map view) c.as_slice-list.ensures.value ∙ field_data_at (view c.args.value.now) (view c.in_ok-get.field-0.now) (map view c.in_ok-as_array.field-0.now.items) c.in_ok-get.ensures c.in_ok-as_array.ensures in
    elim c.then-is_empty.branch [
      | then-is_empty-via-then-is_empty w ↦ unshaped_empty (view c.args.value.now) c.as_slice-list.result.now is (sym w.if-is_empty.ensures)
      | then-is_empty-via-else-is_empty+then-not-are_shaped w ↦ unshaped_bad (view c.args.value.now) c.as_slice-list.result.now is (sym w.are_shaped.ensures ∙ w.if-not-are_shaped.true)
    ]

pub returns : goal.returns
returns c =
    let is : map view c.as_slice-list.result.now ≡ field_data (view c.args.value.now) = ap (map view) c.as_slice-list.ensures.value ∙ field_data_at (view c.args.value.now) (view c.in_ok-get.field-0.now) (map view c.in_ok-as_array.field-0.now.items) c.in_ok-get.ensures c.in_ok-as_array.ensures in
    shaped (view c.args.value.now) c.as_slice-list.result.now is (sym c.is_empty.ensures ∙ c.if-is_empty.false) (sym c.are_shaped.ensures ∙ c.if-not-are_shaped.false)
