use Rattle.std.proofs.Common.{◌≡◌, map, take}
use Rattle.serde_json.specs.Data.{no_members}
use Rattle.doc_model.specs.ReadDoc.{values_of}
use Rattle.doc_model.proofs.object.no_values.Given as goal

abbrev pub invariant-loop-number : goal.invariant-loop-number
invariant-loop-number l = map (λ v. v.items) l.empty.items ≡ map (values_of no_members) (take l._number l.schema.list)
