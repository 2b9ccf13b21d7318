use Rattle.std.proofs.Common.{◌+◌, sym, subst, arith}
use Rattle.std.proofs.lemmas.Result.{err_from_is_err_and}
use Rattle.field_schema.proofs.FieldLists.{HasRead, has_read_more, has_read_told}
use Rattle.field_schema.proofs.reading.read_fields.Goals as goal

pub returns-in_err-field : goal.returns-in_err-field
returns-in_err-field c =
    let p = err_from_is_err_and c.from_residual.result c.from_residual.ensures.1 in
    let told = has_read_told c.loop-i.fields.items c.args.list.now c.loop-i.i c.index-list-i.result c.in_err-field.field-0.0 c.loop-i.invariant (omega arith) c.index-list-i.is c.in_err-field.ensures in
    rw (p.1, p.2) told

pub loop-i-preserved : goal.loop-i-preserved
loop-i-preserved c =
    let more = has_read_more c.loop-i.fields.items c.args.list.now c.loop-i.i c.index-list-i.result c.in_ok-field.field c.loop-i.invariant (omega arith) c.index-list-i.is c.in_ok-field.ensures in
    subst (λ l. HasRead l c.args.list.now (c.loop-i.i + 1)) (sym c.in_ok-push.ensures.items) more
