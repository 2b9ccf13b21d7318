-- The values that a document has in its fields: a text field's are whole texts.
use Rattle.std.specs.Prelude.{ℕ, List, [], slice_index_or}
use Rattle.field_schema.specs.declared.key.Key.{Key}

-- the values in a field, of those of each field in turn
abbrev pub values_at : List (List Key) → ℕ → List Key
values_at values field = slice_index_or values field []
