use Rattle.std.proofs.Common.{map}
use Rattle.doc_model.proofs.Members.{Walked}
use Rattle.doc_model.proofs.object.read_object.Given as goal

abbrev pub invariant-loop-name : goal.invariant-loop-name
invariant-loop-name l = Walked l.schema.list l.members.entries l.name-iterator (map (λ v. v.items) l.fields.items)
