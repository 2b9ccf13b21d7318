-- The reply to a request, as JSON and as text.
use Rattle.std.specs.Prelude.{ℕ, List, [], ◌∷◌, length, map, codes, true}
use Rattle.serde_json.specs.Data.{Data, number, unsigned, boolean, string, array, object, Items, Members, no_members, member}
use Rattle.serde_json.specs.View.{items_of}
use Rattle.serde_json.specs.Written.{compact_text}
use Rattle.field_schema.specs.declared.field.FieldList.{FieldList}
use Rattle.field_schema.specs.Schema.{Fields}
use Rattle.doc_model.specs.Document.{Document}
use Rattle.doc_model.specs.DocJson.{doc_data}
use Rattle.search_model.specs.Answer.{Asked, Answer}

-- what a request was answered
pub data Outcome : Type 0 where
  found : Asked → Answer → Outcome
  accepted : Outcome
  refused : List ℕ → Outcome
  too_many : List ℕ → Outcome
  no_memory : Outcome

abbrev pub count : ℕ → Data
count n = number (unsigned n)

-- documents as a list
abbrev pub docs_items : Fields → FieldList → List Document → Data
docs_items s fields docs = array (items_of (map (doc_data s fields) docs))

abbrev pub counts_data : List ℕ → Items
counts_data ns = items_of (map count ns)

-- the last member of a reply: the header with the status
abbrev pub header : ℕ → Members
header status = member (codes "responseHeader") (object (member (codes "status") (count status) no_members)) no_members

-- the reply with these documents
abbrev pub found_object : Data → ℕ → ℕ → Data
found_object docs n start =
    object (member (codes "response") (object (
    member (codes "docs") docs (
    member (codes "numFound") (count n) (
    member (codes "numFoundExact") (boolean true) (
    member (codes "start") (count start) no_members))))) (header 0))

abbrev pub found_data : Fields → Asked → Answer → Data
found_data s asked a = found_object (docs_items s asked.fields a.docs) a.found asked.start

abbrev pub refused_data : ℕ → List ℕ → Data
refused_data code message =
    object (member (codes "error") (object (
    member (codes "code") (count code) (
    member (codes "msg") (string message) no_members))) (header code))

abbrev pub too_many_data : List ℕ → Data
too_many_data generations =
    object (member (codes "error") (object (
    member (codes "code") (count 503) (
    member (codes "msg") (string (codes "TooMany")) (
    member (codes "warming") (array (counts_data generations)) no_members)))) (header 503))

abbrev pub reply_data : Fields → Outcome → Data
reply_data s (found asked a) = found_data s asked a
reply_data s accepted = object (header 0)
reply_data s (refused message) = refused_data 400 message
reply_data s (too_many generations) = too_many_data generations
reply_data s no_memory = refused_data 500 (codes "NoMemory")

-- the reply's text
abbrev pub reply_text : Fields → Outcome → List ℕ
reply_text s o = compact_text (reply_data s o)

-- the status that the reply shows
abbrev pub code_of : Outcome → ℕ
code_of (found asked a) = 0
code_of accepted = 0
code_of (refused message) = 400
code_of (too_many generations) = 503
code_of no_memory = 500

-- how many documents the reply says were found
abbrev pub found_of : Outcome → ℕ
found_of (found asked a) = a.found
found_of _ = 0

-- how many documents the reply has
abbrev pub docs_of : Outcome → ℕ
docs_of (found asked a) = length a.docs
docs_of _ = 0
