-- For private clauses alone: what the readers of an object's members answer where memory is there.
use Rattle.std.specs.Prelude.{ℕ, List, [], Option, Result, ok_or, unwrap_or, option_and_then, slice_get}
use Rattle.serde_json.specs.Data.{Data, Members}
use Rattle.serde_json.specs.Find.{as_object}
use Rattle.serde_json.specs.Read.{read}
use Rattle.field_schema.specs.declared.field.Field.{Field}
use Rattle.field_schema.specs.declared.key.Key.{Key}
use Rattle.field_schema.specs.Schema.{field_named}
use Rattle.field_schema.specs.Readers.{or_fault}
use Rattle.doc_model.specs.declared.doc.DocFault.{DocFault}
use Rattle.doc_model.specs.declared.doc.DocFault.TheVariants as fault
use Rattle.doc_model.specs.ReadDoc.{member_values, values_fault, member_fault}

-- the members of the object that a body is
abbrev pub object_of : List ℕ → Result Members DocFault
object_of body = ok_or (option_and_then as_object (read body)) fault.NotObject

-- values that may be none of the field's type
abbrev pub of_type : Field → Option (List Key) → Result (List Key) DocFault
of_type f values = ok_or values (fault.BadValue f.name)

-- the values of a member in its field
abbrev pub values_or_fault : Field → Data → Result (List Key) DocFault
values_or_fault f d = or_fault (unwrap_or (member_values f.kind d) []) (values_fault f (member_values f.kind d))

-- the values of the member with a name in the field of that name
abbrev pub member_or_fault : List Field → List ℕ → Data → Result (Option (List Key)) DocFault
member_or_fault fields name d =
    or_fault (option_and_then (λ f. member_values f.kind d) (option_and_then (slice_get fields) (field_named name fields))) (member_fault fields name d)
