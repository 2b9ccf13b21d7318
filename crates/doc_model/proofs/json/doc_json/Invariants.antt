use Rattle.std.proofs.Common.{◌≡◌, drop}
use Rattle.serde_json.specs.View.{members_view}
use Rattle.doc_model.specs.DocJson.{doc_members}
use Rattle.doc_model.proofs.json.doc_json.Given as goal

-- the members of the fields from this one on
abbrev pub invariant-loop-number : goal.invariant-loop-number
invariant-loop-number l = members_view l.members.entries ≡ doc_members l.fields (drop l.number l.schema.list) (drop l.number l.doc.values)
