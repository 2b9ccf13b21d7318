-- Which schema a JSON value reads to, and its first fault.
use Rattle.std.specs.Prelude.{ℕ, List, [], ◌∷◌, ◌++◌, length, Bool, true, false, not, ◌&&◌, ◌||◌, nat_lt, nat_le, if◌then◌else◌, Option, Some, None, is_some, is_none, option_and_then, option_map, unwrap_or, Result, Ok, Err, codes, position, filter_map}
use Rattle.std.specs.Option.{option_map_or}
use Rattle.std.specs.List.{list_all, list_any}
use Rattle.serde_json.specs.Data.{Data, Items, no_items, item}
use Rattle.serde_json.specs.Find.{get, as_str, as_array, as_bool}
use Rattle.field_schema.specs.declared.field.Field.{Field}
use Rattle.field_schema.specs.declared.field.FieldType.{FieldType}
use Rattle.field_schema.specs.declared.field.FieldType.TheVariants.{Str, Long, Bool as Truth, Text}
use Rattle.field_schema.specs.declared.schema.SchemaFault.{SchemaFault}
use Rattle.field_schema.specs.declared.schema.SchemaFault.TheVariants as fault
use Rattle.field_schema.specs.Bytes.{bytes_eq}
use Rattle.field_schema.specs.Names.{is_field_name}
use Rattle.field_schema.specs.Schema.{Fields, can_be_key}

-- want of memory is no fault of the value
abbrev pub is_no_memory : SchemaFault → Bool
is_no_memory fault.NoMemory = true
is_no_memory e = false

abbrev pub listed : Items → List Data
listed no_items = []
listed (item d ds) = d ∷ listed ds

-- a member that is a text
abbrev pub text_at : List ℕ → Data → Option (List ℕ)
text_at name d = option_and_then as_str (get name d)

abbrev pub name_of : Data → List ℕ
name_of d = unwrap_or (text_at (codes "name") d) []

abbrev pub type_of : Data → List ℕ
type_of d = unwrap_or (text_at (codes "type") d) []

-- a field's object has texts for its name and its type
abbrev pub has_shape : Data → Bool
has_shape d = is_some (text_at (codes "name") d) && is_some (text_at (codes "type") d)

-- the members of the list `fields`
abbrev pub field_data : Data → List Data
field_data d = option_map_or listed (option_and_then as_array (get (codes "fields") d)) []

-- an object whose `fields` is a list of at least one field's object
abbrev pub is_shaped : Data → Bool
is_shaped d = nat_lt 0 (length (field_data d)) && list_all has_shape (field_data d)

abbrev pub kind_named : List ℕ → Option FieldType
kind_named name =
    if bytes_eq name (codes "string") then Some Str else
    (if bytes_eq name (codes "plong") then Some Long else
    (if bytes_eq name (codes "boolean") then Some Truth else
    (if bytes_eq name (codes "text_general") then Some Text else None)))

-- a flag that may be left out; None where it is neither true nor false
abbrev pub flag_at : List ℕ → Bool → Data → Option Bool
flag_at name missing d = option_map_or as_bool (get name d) (Some missing)

-- the field, where its type and its flags are what they must be
abbrev pub field_of : Data → Option Field
field_of d =
    option_and_then (λ kind. option_and_then (λ multi. option_and_then (λ stored. option_map (λ indexed.
    record { name = name_of d; kind = kind; multi = multi; stored = stored; indexed = indexed })
    (flag_at (codes "indexed") true d))
    (flag_at (codes "stored") true d))
    (flag_at (codes "multiValued") false d))
    (kind_named (type_of d))

-- the fault of a field behind the earlier ones
abbrev pub field_fault : List Data → Data → Option SchemaFault
field_fault earlier d =
    if not (is_field_name (name_of d)) || nat_le 64 (length earlier) then Some (fault.BadName (name_of d)) else
    (if is_none (field_of d) then Some (fault.BadType (name_of d)) else
    (if list_any (λ e. bytes_eq (name_of e) (name_of d)) earlier then Some (fault.Twice (name_of d)) else None))

-- the fault of the first field that has one
abbrev pub first_fault : List Data → List Data → Option SchemaFault
first_fault earlier [] = None
first_fault earlier (d ∷ ds) = option_map_or Some (field_fault earlier d) (first_fault (earlier ++ d ∷ []) ds)

-- the place of the field that `uniqueKey` names, where it can be the key
abbrev pub key_in : List Field → Data → Option ℕ
key_in fields d = option_and_then (λ name. position (λ f. bytes_eq f.name name && can_be_key f) fields) (text_at (codes "uniqueKey") d)

-- the schema with these fields
abbrev pub with_key : List Field → Data → Result Fields SchemaFault
with_key fields d = option_map_or (λ key. Ok (record { list = fields; key = key })) (key_in fields d) (Err fault.NoUniqueKey)

-- the schema that the value reads to, or the first fault
abbrev pub schema_of : Data → Result Fields SchemaFault
schema_of d =
    if is_shaped d
    then option_map_or Err (first_fault [] (field_data d)) (with_key (filter_map field_of (field_data d)) d)
    else Err fault.NotObject
