-- The JSON list of values.
use Rattle.std.proofs.Common.{◌≡◌, List, [], ◌∷◌, map, refl, ap}
use Rattle.serde_json.specs.Data.{item}
use Rattle.serde_json.specs.View.{items_of}
use Rattle.field_schema.specs.declared.key.Key.{Key}
use Rattle.doc_model.specs.DocJson.{value_data, values_data}

pub values_data_map : (values : List Key) → items_of (map value_data values) ≡ values_data values
values_data_map [] = refl
values_data_map (k ∷ ks) = ap (item (value_data k)) (values_data_map ks)
