use Rattle.field_schema.proofs.FieldLists.{HasRead}
use Rattle.field_schema.proofs.reading.read_fields.Given as goal

-- the fields of the objects so far, none of which has a fault
abbrev pub invariant-loop-i : goal.invariant-loop-i
invariant-loop-i l = HasRead l.fields.items l.list l.i
