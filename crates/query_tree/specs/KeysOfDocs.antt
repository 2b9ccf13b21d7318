-- The keys of a document in a field, as queries see them.
use Rattle.std.specs.Prelude.{ℕ, List, [], ◌∷◌, map}
use Rattle.std.specs.List.{flat_map}
use Rattle.field_schema.specs.declared.key.Key.{Key}
use Rattle.field_schema.specs.declared.key.Key.TheVariants as key
use Rattle.field_schema.specs.Values.{values_at}
use Rattle.field_schema.specs.Tokens.{tokens}

-- the keys of a value: a text gives its tokens
abbrev pub keys_of_value : Key → List Key
keys_of_value (key.Token text) = map key.Token (tokens text)
keys_of_value k = k ∷ []

-- the keys in a field of a document, of which each field's values are told
abbrev pub keys_in : List (List Key) → ℕ → List Key
keys_in doc field = flat_map keys_of_value (values_at doc field)
