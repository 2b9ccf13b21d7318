use Rattle.field_schema.specs.Bytes.{bytes_eq}
use Rattle.field_schema.proofs.Positions.{NoneBefore}
use Rattle.field_schema.proofs.schema.place_of.Given as goal

-- no field before this one has the name
abbrev pub invariant-loop-i : goal.invariant-loop-i
invariant-loop-i l = NoneBefore (λ f. bytes_eq f.name l.name) l.fields l.i
