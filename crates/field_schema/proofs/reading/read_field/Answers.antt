use Rattle.std.proofs.Common.{◌≡◌, ◌∙◌, ap, sym, true, false, leb, length, map, Some, Ok, arith}
use Rattle.std.proofs.lemmas.Result.{err_from_is_err_and}
use Rattle.field_schema.specs.declared.schema.SchemaFault.TheVariants as fault
use Rattle.field_schema.specs.Names.{is_field_name}
use Rattle.field_schema.specs.ReadSchema.{name_of, field_of}
use Rattle.field_schema.proofs.Readers.{or_none, or_some}
use Rattle.field_schema.proofs.FieldFaults.{is_taken, type_told, taken_told, early_told, ok_or-Ok, field_of-name, fault_twice, fault_none}
use Rattle.serde_json.specs.View.{view}
use Rattle.field_schema.proofs.reading.read_field.Goals as goal

pub returns-in_err-field : goal.returns-in_err-field
returns-in_err-field c =
    let named : c.in_ok-name.name ≡ name_of (view c.args.value.now) = c.in_ok-name.ensures ∙ c.name_of.ensures in
    let good : is_field_name (name_of (view c.args.value.now)) ≡ true = sym (ap is_field_name (c.get.ensures ∙ named)) ∙ sym c.is_field_name.ensures ∙ c.if-not-is_field_name.false in
    let early : leb 64 (length (map view c.args.earlier.now)) ≡ false = early_told c.args.earlier.now (omega arith) in
    let p = err_from_is_err_and c.from_residual-in_err-field.result c.from_residual-in_err-field.ensures.1 in
    let told = type_told (map view c.args.earlier.now) (view c.args.value.now) c.in_ok-name.name c.in_err-field.field-0.0 named good early (sym c.typed_field.ensures ∙ c.in_err-field.was) in
    rw (p.1, p.2) told

pub returns-then-has_name : goal.returns-then-has_name
returns-then-has_name c =
    let named : c.in_ok-name.name ≡ name_of (view c.args.value.now) = c.in_ok-name.ensures ∙ c.name_of.ensures in
    let good : is_field_name (name_of (view c.args.value.now)) ≡ true = sym (ap is_field_name (c.get.ensures ∙ named)) ∙ sym c.is_field_name.ensures ∙ c.if-not-is_field_name.false in
    let early : leb 64 (length (map view c.args.earlier.now)) ≡ false = early_told c.args.earlier.now (omega arith) in
    let typed : field_of (view c.args.value.now) ≡ Some c.in_ok-field.field = ok_or-Ok (field_of (view c.args.value.now)) (fault.BadType c.in_ok-name.name) c.in_ok-field.field (sym c.typed_field.ensures ∙ c.in_ok-field.was) in
    let same : c.in_ok-field.field.name ≡ name_of (view c.args.value.now) = field_of-name (view c.args.value.now) c.in_ok-field.field typed in
    let taken : is_taken (map view c.args.earlier.now) (name_of (view c.args.value.now)) ≡ true =
    ap (is_taken (map view c.args.earlier.now)) (sym (c.get-2.ensures ∙ same)) ∙ taken_told c.args.earlier.now c.get-2.result.now c.has_name.result true c.has_name.ensures c.if-has_name.true in
    or_some _ _ _ (fault_twice (map view c.args.earlier.now) (view c.args.value.now) c.in_ok-field.field good early typed taken ∙ ap (λ n. Some (fault.Twice n)) (sym same))

pub returns : goal.returns
returns c =
    let named : c.in_ok-name.name ≡ name_of (view c.args.value.now) = c.in_ok-name.ensures ∙ c.name_of.ensures in
    let good : is_field_name (name_of (view c.args.value.now)) ≡ true = sym (ap is_field_name (c.get.ensures ∙ named)) ∙ sym c.is_field_name.ensures ∙ c.if-not-is_field_name.false in
    let early : leb 64 (length (map view c.args.earlier.now)) ≡ false = early_told c.args.earlier.now (omega arith) in
    let typed : field_of (view c.args.value.now) ≡ Some c.in_ok-field.field = ok_or-Ok (field_of (view c.args.value.now)) (fault.BadType c.in_ok-name.name) c.in_ok-field.field (sym c.typed_field.ensures ∙ c.in_ok-field.was) in
    let same : c.in_ok-field.field.name ≡ name_of (view c.args.value.now) = field_of-name (view c.args.value.now) c.in_ok-field.field typed in
    let new : is_taken (map view c.args.earlier.now) (name_of (view c.args.value.now)) ≡ false =
    ap (is_taken (map view c.args.earlier.now)) (sym (c.get-2.ensures ∙ same)) ∙ taken_told c.args.earlier.now c.get-2.result.now c.has_name.result false c.has_name.ensures c.if-has_name.false in
    or_none _ _ (fault_none (map view c.args.earlier.now) (view c.args.value.now) c.in_ok-field.field good early typed new) ∙ ap Ok typed
