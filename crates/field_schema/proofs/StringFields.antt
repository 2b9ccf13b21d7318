-- A list of fields of whole texts can be a schema's.
use Rattle.std.proofs.Common.{ℕ, ◌<◌, ◌≤◌, List, [], length, map, refl, IsTrue}
use Rattle.std.specs.List.{list_all}
use Rattle.std.proofs.lemmas.List.{length-map}
use Rattle.std.proofs.lemmas.List.Folds.{list_all-map}
use Rattle.std.proofs.lemmas.Option.{slice_get-map, slice_get-get_or}
use Rattle.field_schema.specs.Names.{is_field_name}
use Rattle.field_schema.specs.Schema.{IsSchema, names_differ, string_field}

pub string_fields-IsSchema : (names : List (List ℕ)) (key : ℕ) → length names ≤ 64 → IsTrue (list_all is_field_name names) → IsTrue (names_differ (map string_field names)) → key < length names
    → IsSchema (record { list = map string_field names; key = key })
string_fields-IsSchema names key most form distinct within = record {
  most = rw (length-map names string_field) most;
  key = rw (slice_get-map string_field names key, slice_get-get_or names key [] within) refl;
  names = rw (list_all-map (λ f. is_field_name f.name) string_field names) form;
  distinct = distinct;
}
