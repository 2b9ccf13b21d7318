-- A document as JSON.
use Rattle.std.specs.Prelude.{List, [], ◌∷◌, length, Bool, true, ◌&&◌, nat_lt, if◌then◌else◌}
use Rattle.std.specs.List.{list_any}
use Rattle.serde_json.specs.Data.{Data, null, boolean, number, string, array, object, Items, no_items, item, Members, no_members, put}
use Rattle.serde_json.specs.Find.{of_integer}
use Rattle.field_schema.specs.declared.field.Field.{Field}
use Rattle.field_schema.specs.declared.field.FieldList.{FieldList}
use Rattle.field_schema.specs.declared.field.FieldList.TheVariants as list
use Rattle.field_schema.specs.declared.key.Key.{Key}
use Rattle.field_schema.specs.declared.key.Key.TheVariants as key
use Rattle.field_schema.specs.Bytes.{bytes_eq}
use Rattle.field_schema.specs.Schema.{Fields}
use Rattle.doc_model.specs.Document.{Document}

abbrev pub value_data : Key → Data
value_data (key.Str text) = string text
value_data (key.Long z) = number (of_integer z)
value_data (key.Bool b) = boolean b
value_data (key.Token text) = string text

abbrev pub values_data : List Key → Items
values_data [] = no_items
values_data (k ∷ ks) = item (value_data k) (values_data ks)

-- the value of a field that has one
abbrev pub first_data : List Key → Data
first_data [] = null
first_data (k ∷ ks) = value_data k

-- several values are a list, also where there is one
abbrev pub field_data : Field → List Key → Data
field_data f values = if f.multi then array (values_data values) else first_data values

abbrev pub is_listed : FieldList → Field → Bool
is_listed list.All f = true
is_listed (list.Names names) f = list_any (bytes_eq f.name) names

-- a reply shows a field that is stored, listed and has a value
abbrev pub is_shown : FieldList → Field → List Key → Bool
is_shown fields f values = f.stored && is_listed fields f && nat_lt 0 (length values)

-- the members of the fields that are shown, each in its place by name
abbrev pub doc_members : FieldList → List Field → List (List Key) → Members
doc_members fields [] vs = no_members
doc_members fields (f ∷ fs) [] = no_members
doc_members fields (f ∷ fs) (values ∷ vs) =
    if is_shown fields f values then put f.name (field_data f values) (doc_members fields fs vs) else doc_members fields fs vs

abbrev pub doc_data : Fields → FieldList → Document → Data
doc_data s fields d = object (doc_members fields s.list d.values)
