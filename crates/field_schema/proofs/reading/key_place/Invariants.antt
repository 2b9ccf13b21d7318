use Rattle.std.proofs.Common.{◌&&◌}
use Rattle.field_schema.specs.Bytes.{bytes_eq}
use Rattle.field_schema.specs.Schema.{can_be_key}
use Rattle.field_schema.proofs.Positions.{NoneBefore}
use Rattle.field_schema.proofs.reading.key_place.Given as goal

-- no field before this one has the name and can be the key
abbrev pub invariant-loop-i : goal.invariant-loop-i
invariant-loop-i l = NoneBefore (λ f. bytes_eq f.name l.name && can_be_key f) l.fields l.i
