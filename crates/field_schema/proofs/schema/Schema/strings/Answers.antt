use Rattle.std.proofs.Common.{◌≡◌, ◌∙◌, ap, sym, subst, map}
use Rattle.field_schema.specs.Schema.{IsSchema, string_field}
use Rattle.field_schema.proofs.StringFields.{string_fields-IsSchema}
use Rattle.field_schema.proofs.schema.Schema.strings.Goals as goal

pub invariant_of-result : goal.invariant_of-result
invariant_of-result c =
    let r = c.requires in
    let same : c.in_ok-fields.fields.items ≡ map string_field c.args.names = c.in_ok-fields.ensures ∙ ap (map string_field) c.into_vec.ensures in
    subst (λ list. IsSchema (record { list = list; key = c.args.key })) (sym same)
    (string_fields-IsSchema c.args.names c.args.key r.most r.form r.distinct r.key)
