-- The configuration of each script that the generator makes.
use Rattle.std.specs.Prelude.{ℕ, List, [], ◌∷◌, ◌++◌, Some, codes, true, false}
use Rattle.field_schema.specs.declared.field.Field.{Field}
use Rattle.field_schema.specs.declared.field.FieldType.{FieldType}
use Rattle.field_schema.specs.declared.field.FieldType.TheVariants as kind
use Rattle.field_schema.specs.Schema.{Fields}
use Rattle.script_form.specs.declared.config.Config.{Config}
use Rattle.script_form.specs.declared.config.WarmSetting.{WarmSetting}

-- its schema as JSON: an id, a category, a price and a text
abbrev pub schema_text : List ℕ
schema_text =
    codes "{\"fields\":[{\"name\":\"id\",\"type\":\"string\"},{\"name\":\"cat\",\"type\":\"string\"}," ++
    codes "{\"name\":\"price\",\"type\":\"plong\"},{\"name\":\"t\",\"type\":\"text_general\"}],\"uniqueKey\":\"id\"}"

-- its line: both caches of queries are warmed, and `t` is the default field
abbrev pub config_line : List ℕ
config_line =
    codes "{\"df\":\"t\",\"filterCache\":{\"autowarmCount\":16},\"queryResultCache\":{\"autowarmCount\":16},\"schema\":" ++
    (schema_text ++ codes "}")

-- a field with one value, which is stored and indexed
abbrev pub plain_field : List ℕ → FieldType → Field
plain_field name kind = record { name = name; kind = kind; multi = false; stored = true; indexed = true }

abbrev pub made_schema : Fields
made_schema = record {
  list =
      plain_field (codes "id") kind.Str ∷
      plain_field (codes "cat") kind.Str ∷
      plain_field (codes "price") kind.Long ∷
      plain_field (codes "t") kind.Text ∷ [];
  key = 0;
}

-- the sixteen most recently used entries of a cache are regenerated
abbrev pub sixteen : WarmSetting
sixteen = record { number = 16; percent = false }

-- what the line reads to
abbrev pub made_config : Config
made_config = record {
  schema = made_schema;
  filter_size = 512;
  filter_warm = sixteen;
  result_size = 512;
  result_warm = sixteen;
  document_size = 512;
  window = 20;
  most_docs = 200;
  max_warming = 1;
  cold = false;
  most_clauses = 1024;
  warmers = 1;
  df = Some 3;
  first = [];
  fresh = [];
}
