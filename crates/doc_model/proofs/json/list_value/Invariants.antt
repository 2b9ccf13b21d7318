use Rattle.std.proofs.Common.{◌≡◌, map, take}
use Rattle.serde_json.specs.View.{view}
use Rattle.doc_model.specs.DocJson.{value_data}
use Rattle.doc_model.proofs.json.list_value.Given as goal

abbrev pub invariant-loop-value : goal.invariant-loop-value
invariant-loop-value l = map view l.items.items ≡ map value_data (take l.value-index l.values)
