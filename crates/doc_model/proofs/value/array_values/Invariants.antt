use Rattle.std.proofs.Common.{◌≡◌, map, drop}
use Rattle.serde_json.specs.View.{view}
use Rattle.doc_model.specs.ReadDoc.{list_values}
use Rattle.doc_model.proofs.Values.{onto}
use Rattle.doc_model.proofs.value.array_values.Given as goal

-- the values so far stand before those that are left
abbrev pub invariant-loop-value : goal.invariant-loop-value
invariant-loop-value l = list_values l.field.kind (map view l.values) ≡ onto l.found.items (list_values l.field.kind (map view (drop l.value-index l.values)))
