use Rattle.doc_model.proofs.Values.{member_values_array}
use Rattle.doc_model.proofs.value.member_values.Goals as goal

pub returns-in-Array : goal.returns-in-Array
returns-in-Array c =
    rw (member_values_array c.args.field.now.kind c.args.value.now c.in-Array.values c.in-Array.is, ← c.as_slice.ensures.value) c.array_values.ensures
