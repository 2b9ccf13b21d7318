-- What a document says of its JSON.
use Rattle.std.specs.Prelude.{◌≡◌, ℕ, List, IsTrue, Some, Ok, option_map}
use Rattle.std.specs.List.{list_all}
use Rattle.serde_json.specs.Find.{as_object}
use Rattle.field_schema.specs.declared.field.FieldList.TheVariants as list
use Rattle.field_schema.specs.Schema.{Fields, IsSchema}
use Rattle.doc_model.specs.Document.{Document}
use Rattle.doc_model.specs.ReadDoc.{object_doc, doc_of}
use Rattle.doc_model.specs.DocJson.{doc_data}

-- each field is stored
abbrev pub StoresAll : Fields → Type 0
StoresAll s = IsTrue (list_all (λ f. f.stored) s.list)

-- what a document shows of all its fields reads to the same document
abbrev pub ShownReadsAgain : Type 0
ShownReadsAgain = (s : Fields) (body : List ℕ) (d : Document) → IsSchema s → StoresAll s → doc_of s body ≡ Ok d
    → option_map (object_doc s) (as_object (doc_data s list.All d)) ≡ Some (Ok d)
