use Rattle.std.proofs.Common.{arith}
use Rattle.field_schema.specs.Bytes.{bytes_eq}
use Rattle.field_schema.proofs.Positions.{position_at}
use Rattle.field_schema.proofs.schema.place_of.Goals as goal

pub returns-then-eq : goal.returns-then-eq
returns-then-eq c =
    position_at (λ f. bytes_eq f.name c.args.name.now) c.args.fields.now c.loop-i.i c.index-fields-i.result (omega arith) c.loop-i.invariant (cc)
