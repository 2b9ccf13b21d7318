use Rattle.std.proofs.Common.{◌≡◌, map, take, ap, ◌∙◌, arith}
use Rattle.std.proofs.lemmas.List.{take_all}
use Rattle.serde_json.specs.Data.{array}
use Rattle.serde_json.specs.View.{items_of}
use Rattle.serde_json.proofs.Views.{view-Array}
use Rattle.doc_model.specs.DocJson.{value_data}
use Rattle.doc_model.proofs.Lists.{values_data_map}
use Rattle.doc_model.proofs.json.list_value.Goals as goal

pub returns : goal.returns
returns c =
    let values = c.args.values.now in
    let all : take c.loop-value.value-index values ≡ values = take_all c.loop-value.value-index values (omega arith) in
    view-Array c.loop-value.items ∙ ap (λ ds. array (items_of ds)) (c.loop-value.invariant ∙ ap (map value_data) all) ∙ ap array (values_data_map values)
