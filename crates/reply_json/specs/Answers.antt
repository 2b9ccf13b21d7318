-- The replies to answers.
use Rattle.std.specs.Prelude.{◌≡◌, map, false, codes, ⊤}
use Rattle.std.specs.Arc.{arc_value}
use Rattle.serde_json.specs.Data.{Data, object}
use Rattle.field_schema.specs.declared.field.FieldList.{FieldList}
use Rattle.field_schema.specs.Schema.{Fields}
use Rattle.doc_model.specs.ReadDoc.{is_no_memory as is_no_memory_of_doc}
use Rattle.request_form.specs.Messages.{request_message}
use Rattle.request_form.specs.Requests.{is_no_memory}
use Rattle.search_model.specs.Messages.{doc_message}
use Rattle.search_model.specs.Reply.{docs_items, found_object, header, refused_data}
use Rattle.reply_json.specs.declared.replies.Answer.{Answer}
use Rattle.reply_json.specs.declared.replies.Answer.TheVariants.{Found, Accepted, BadDoc, BadRequest, NoMemory}

-- a fault inside the answer is none of memory
abbrev pub IsSound : Answer → Type 0
IsSound (BadDoc fault) = is_no_memory_of_doc fault ≡ false
IsSound (BadRequest fault) = is_no_memory fault ≡ false
IsSound _ = ⊤

-- the reply to an answer, which shows these fields of its documents
abbrev pub answer_data : Fields → FieldList → Answer → Data
answer_data s fields (Found found start docs) = found_object (docs_items s fields (map arc_value docs.items)) found start
answer_data s fields Accepted = object (header 0)
answer_data s fields (BadDoc fault) = refused_data 400 (doc_message fault)
answer_data s fields (BadRequest fault) = refused_data 400 (request_message fault)
answer_data s fields NoMemory = refused_data 500 (codes "NoMemory")
