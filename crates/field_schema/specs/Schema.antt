-- What contracts see of a schema.
use Rattle.std.specs.Prelude.{ℕ, ◌≤◌, List, [], ◌∷◌, length, Bool, true, false, ◌&&◌, not, Option, position, slice_get, IsSomeAnd, IsTrue}
use Rattle.std.specs.List.{list_all, list_any}
use Rattle.field_schema.specs.declared.field.Field.{Field}
use Rattle.field_schema.specs.declared.field.FieldType.{FieldType}
use Rattle.field_schema.specs.declared.field.FieldType.TheVariants.{Str}
use Rattle.field_schema.specs.Bytes.{bytes_eq}
use Rattle.field_schema.specs.Names.{is_field_name}

-- the fields in order, and the place of the unique key among them
pub record Fields : Type 0 where
  pub list : List Field
  pub key : ℕ

abbrev pub is_str : FieldType → Bool
is_str Str = true
is_str k = false

-- a field that can be the unique key
abbrev pub can_be_key : Field → Bool
can_be_key f = is_str f.kind && f.stored && f.indexed && not f.multi

-- the place of the field of that name
abbrev pub field_named : List ℕ → List Field → Option ℕ
field_named name fields = position (λ f. bytes_eq f.name name) fields

-- no name stands twice
abbrev pub names_differ : List Field → Bool
names_differ [] = true
names_differ (f ∷ fs) = not (list_any (λ g. bytes_eq g.name f.name) fs) && names_differ fs

-- what each schema is
pub record IsSchema (s : Fields) : Type 0 where
  pub most : length s.list ≤ 64
  pub key : IsSomeAnd (slice_get s.list s.key) (λ f. IsTrue (can_be_key f))
  pub names : IsTrue (list_all (λ f. is_field_name f.name) s.list)
  pub distinct : IsTrue (names_differ s.list)

-- a field of whole texts with one value
abbrev pub string_field : List ℕ → Field
string_field name = record { name = name; kind = Str; multi = false; stored = true; indexed = true }
