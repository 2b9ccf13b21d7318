use Rattle.std.proofs.Common.{◌≡◌, map}
use Rattle.field_schema.specs.Schema.{string_field}
use Rattle.field_schema.proofs.schema.string_fields.Given as goal

-- the names so far have their fields
abbrev pub invariant-loop-name : goal.invariant-loop-name
invariant-loop-name l = l.fields.items ≡ map string_field l.yielded
