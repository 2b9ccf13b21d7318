-- For private clauses alone: what the readers of a schema's fields answer where memory is there.
use Rattle.std.specs.Prelude.{List, [], Option, Result, Ok, Err}
use Rattle.std.specs.Option.{option_map_or}
use Rattle.std.specs.List.{filter_map}
use Rattle.serde_json.specs.Data.{Data}
use Rattle.field_schema.specs.declared.field.Field.{Field}
use Rattle.field_schema.specs.declared.schema.SchemaFault.{SchemaFault}
use Rattle.field_schema.specs.ReadSchema.{field_of, field_fault, first_fault}

-- the value, unless there is a fault
abbrev pub or_fault : {A E : Type 0} → A → Option E → Result A E
or_fault x fault = option_map_or Err fault (Ok x)

-- the field of an object behind the earlier ones
abbrev pub field_or_fault : List Data → Data → Result (Option Field) SchemaFault
field_or_fault earlier d = or_fault (field_of d) (field_fault earlier d)

-- the fields of a list of fields' objects
abbrev pub fields_or_fault : List Data → Result (List Field) SchemaFault
fields_or_fault ds = or_fault (filter_map field_of ds) (first_fault [] ds)
