-- Which document a body reads to, and its first fault.
use Rattle.std.specs.Prelude.{ℕ, List, [], ◌∷◌, ◌++◌, length, Bool, true, false, not, ◌&&◌, nat_lt, if◌then◌else◌, Option, Some, None, option_and_then, option_map, unwrap_or, Result, Ok, Err, map, slice_get, decimal, ℤ}
use Rattle.std.specs.Option.{option_map_or}
use Rattle.std.specs.List.{list_all}
use Rattle.std.specs.Fmt.{signed_decimal}
use Rattle.serde_json.specs.Data.{Num, unsigned, negative, float, Data, null, boolean, number, string, array, Members, no_members, member}
use Rattle.serde_json.specs.Find.{get_member, as_object, as_integer}
use Rattle.serde_json.specs.Read.{read}
use Rattle.field_schema.specs.declared.field.Field.{Field}
use Rattle.field_schema.specs.declared.field.FieldType.{FieldType}
use Rattle.field_schema.specs.declared.field.FieldType.TheVariants as kind
use Rattle.field_schema.specs.declared.key.Key.{Key}
use Rattle.field_schema.specs.declared.key.Key.TheVariants as key
use Rattle.field_schema.specs.Schema.{Fields, field_named}
use Rattle.field_schema.specs.ReadSchema.{listed}
use Rattle.doc_model.specs.declared.doc.DocFault.{DocFault}
use Rattle.doc_model.specs.declared.doc.DocFault.TheVariants as fault
use Rattle.field_schema.specs.ValueTexts.{is_i64, long_text, begins_true, truth_text}
use Rattle.doc_model.specs.Document.{Document, str_text, with_id}

-- want of memory is no fault of the body
abbrev pub is_no_memory : DocFault → Bool
is_no_memory fault.NoMemory = true
is_no_memory e = false

-- ---- the value of one JSON scalar in a field

-- a whole number's digits; a number with a fraction or an exponent has none
abbrev pub whole_text : Num → Option (List ℕ)
whole_text (unsigned n) = Some (decimal n)
whole_text (negative z) = Some (signed_decimal z)
whole_text (float x) = None

-- a text in a field of a type
abbrev pub text_value : FieldType → List ℕ → Option Key
text_value kind.Str text = Some (key.Str text)
text_value kind.Long text = option_map key.Long (long_text text)
text_value kind.Bool text = Some (key.Bool (begins_true text))
text_value kind.Text text = Some (key.Token text)

-- a whole number within 64 signed bits
abbrev pub long_value : ℤ → Option Key
long_value z = if is_i64 z then Some (key.Long z) else None

-- a number in a field of a type
abbrev pub number_value : FieldType → Num → Option Key
number_value kind.Str n = option_map key.Str (whole_text n)
number_value kind.Long n = option_and_then long_value (as_integer n)
number_value kind.Bool n = option_map (λ t. key.Bool (begins_true t)) (whole_text n)
number_value kind.Text n = option_map key.Token (whole_text n)

-- true or false in a field of a type
abbrev pub truth_value : FieldType → Bool → Option Key
truth_value kind.Str b = Some (key.Str (truth_text b))
truth_value kind.Long b = None
truth_value kind.Bool b = Some (key.Bool b)
truth_value kind.Text b = Some (key.Token (truth_text b))

abbrev pub one_value : Option Key → Option (List Key)
one_value k = option_map (λ x. x ∷ []) k

-- the values of a member that is no list, where it is of the type: null gives none
abbrev pub scalar_values : FieldType → Data → Option (List Key)
scalar_values t null = Some []
scalar_values t (boolean b) = one_value (truth_value t b)
scalar_values t (number n) = one_value (number_value t n)
scalar_values t (string s) = one_value (text_value t s)
scalar_values t d = None

-- those of each in turn, where all are of the type
abbrev pub list_values : FieldType → List Data → Option (List Key)
list_values t [] = Some []
list_values t (d ∷ ds) = option_and_then (λ first. option_map (λ others. first ++ others) (list_values t ds)) (scalar_values t d)

-- the values of a member: a list's in turn, lists not nested
abbrev pub member_values : FieldType → Data → Option (List Key)
member_values t (array ds) = list_values t (listed ds)
member_values t d = scalar_values t d

-- ---- the fault of a member

-- the greatest length of a value of a string field, in bytes
abbrev pub most_bytes : ℕ
most_bytes = 32766

-- the length of the first value that is too long
abbrev pub too_long : List Key → Option ℕ
too_long [] = None
too_long (k ∷ ks) = if nat_lt most_bytes (length (str_text k)) then Some (length (str_text k)) else too_long ks

-- the fault of values that came to a field
abbrev pub values_fault : Field → Option (List Key) → Option DocFault
values_fault f None = Some (fault.BadValue f.name)
values_fault f (Some values) =
    if not f.multi && nat_lt 1 (length values) then Some (fault.ManyValues f.name) else option_map fault.TooLong (too_long values)

-- the fault of a member
abbrev pub member_fault : List Field → List ℕ → Data → Option DocFault
member_fault fields name d =
    option_map_or (λ f. values_fault f (member_values f.kind d)) (option_and_then (slice_get fields) (field_named name fields)) (Some (fault.UnknownField name))

-- the fault of the first member that has one; members stand in the order of their names' bytes
abbrev pub members_fault : List Field → Members → Option DocFault
members_fault fields no_members = None
members_fault fields (member name d ms) = option_map_or Some (member_fault fields name d) (members_fault fields ms)

-- ---- the whole

abbrev pub is_null : Data → Bool
is_null null = true
is_null d = false

-- null, or a list of nothing but nulls
abbrev pub has_no_value : Data → Bool
has_no_value (array ds) = list_all is_null (listed ds)
has_no_value d = is_null d

-- the member of a field is absent or has no value, or there is no field
abbrev pub lacks_value : Option Field → Members → Bool
lacks_value field ms = option_map_or (λ f. option_map_or has_no_value (get_member f.name ms) true) field true

-- so it is with the member of the unique key
abbrev pub lacks_id : Fields → Members → Bool
lacks_id s ms = lacks_value (slice_get s.list s.key) ms

-- the values of a field: those of its member
abbrev pub values_of : Members → Field → List Key
values_of ms f = unwrap_or (option_and_then (member_values f.kind) (get_member f.name ms)) []

-- the document of an object, or its first fault
abbrev pub object_doc : Fields → Members → Result Document DocFault
object_doc s ms =
    if lacks_id s ms then Err fault.NoId
    else option_map_or Err (members_fault s.list ms) (Ok (with_id (map (values_of ms) s.list) s.key))

-- the document of a body, or its first fault
abbrev pub doc_of : Fields → List ℕ → Result Document DocFault
doc_of s body = option_map_or (object_doc s) (option_and_then as_object (read body)) (Err fault.NotObject)
