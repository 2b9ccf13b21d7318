use Rattle.std.proofs.Common.{◌≡◌, Some, sym}
use Rattle.std.specs.Prelude.{slice_get}
use Rattle.std.proofs.lemmas.Result.{err_from_is_err_and}
use Rattle.serde_json.specs.View.{view}
use Rattle.field_schema.specs.Schema.{field_named}
use Rattle.field_schema.proofs.FieldFaults.{ok_or-Ok}
use Rattle.doc_model.proofs.Members.{named_there, member_told}
use Rattle.doc_model.proofs.object.read_member.Goals as goal

pub returns-in_err-field_values-in-Some-clause-read : goal.returns-in_err-field_values-in-Some-clause-read
returns-in_err-field_values-in-Some-clause-read c =
    let fields = c.args.schema.now.list in
    let i = c.in_ok-number.number in
    let named : field_named c.args.name.now fields ≡ Some i = ok_or-Ok _ _ i c.in_ok-number.ensures in
    let here : slice_get fields i ≡ Some c.in-Some.field.now = sym c.in-Some.ensures in
    let p = err_from_is_err_and c.from_residual-in_err-field_values-in-Some.result c.from_residual-in_err-field_values-in-Some.ensures.1 in
    rw (p.1, p.2) (member_told fields c.args.name.now (view c.args.value.now) i c.in-Some.field.now c.in_err-field_values-in-Some.field-0.0 named here c.in_err-field_values-in-Some.ensures)

pub unreachable-requires : goal.unreachable-requires
unreachable-requires c =
    let fields = c.args.schema.now.list in
    let named : field_named c.args.name.now fields ≡ Some c.in_ok-number.number = ok_or-Ok _ _ c.in_ok-number.number c.in_ok-number.ensures in
    named_there c.args.name.now fields c.in_ok-number.number named c.in-None.ensures
