-- The requests of a JSON list.
use Rattle.std.proofs.Common.{◌≡◌, List, [], ◌∷◌, map, Some, option_and_then, refl, sym, ap, ◌∙◌}
use Rattle.serde_json.specs.Data.{Data}
use Rattle.serde_json.specs.Find.{as_array}
use Rattle.serde_json.specs.View.{view, items_of, items_view}
use Rattle.serde_json.specs.declared.value.Value.{Value}
use Rattle.field_schema.specs.Schema.{Fields}
use Rattle.field_schema.specs.ReadSchema.{listed}
use Rattle.field_schema.proofs.Shapes.{listed-items_of}
use Rattle.request_form.specs.declared.request.Defaults.{Defaults}
use Rattle.script_form.specs.ReadConfig.{each_some, request_in, requests_in}

-- the requests of a list are those of its values
pub of_values : (s : Fields) (defaults : Defaults) (d : Data) (vs : List Value) → Some (items_view vs) ≡ as_array d
    → requests_in s defaults d ≡ each_some (request_in s defaults) (map view vs)
of_values s defaults d vs h =
    ap (option_and_then (λ texts. each_some (request_in s defaults) (listed texts))) (sym h)
    ∙ ap (each_some (request_in s defaults)) (listed-items_of (map view vs))
