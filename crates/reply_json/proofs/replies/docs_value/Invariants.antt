use Rattle.std.proofs.Common.{◌≡◌, map, take}
use Rattle.std.specs.Arc.{arc_value}
use Rattle.serde_json.specs.View.{view}
use Rattle.doc_model.specs.DocJson.{doc_data}
use Rattle.reply_json.proofs.replies.docs_value.Given as goal

-- the values so far are those of the documents so far
abbrev pub invariant-loop-doc : goal.invariant-loop-doc
invariant-loop-doc l = map view l.values.items ≡ map (doc_data l.schema l.fields) (map arc_value (take l.doc-index l.docs))
