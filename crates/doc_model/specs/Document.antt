-- A document as contracts see it.
use Rattle.std.specs.Prelude.{◌≡◌, ℕ, List, [], ◌∷◌, length, sum_by}
use Rattle.field_schema.specs.declared.key.Key.{Key}
use Rattle.field_schema.specs.declared.key.Key.TheVariants as key
use Rattle.field_schema.specs.Values.{values_at}

-- for each field, in the order of the schema, its values; and the text of the unique key
pub record Document : Type 0 where
  pub values : List (List Key)
  pub id : List ℕ

-- the text of a string field's value
abbrev pub str_text : Key → List ℕ
str_text (key.Str text) = text
str_text k = []

abbrev pub first_text : List Key → List ℕ
first_text [] = []
first_text (k ∷ ks) = str_text k

-- the document with these values, whose unique key stands in a field
abbrev pub with_id : List (List Key) → ℕ → Document
with_id values field = record { values = values; id = first_text (values_at values field) }

-- the field has one value, which is the id
abbrev pub IsIdAt : Document → ℕ → Type 0
IsIdAt d field = values_at d.values field ≡ key.Str d.id ∷ []

-- how many values it has in all its fields
abbrev pub value_count : Document → ℕ
value_count d = sum_by length d.values
