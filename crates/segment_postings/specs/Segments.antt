-- The documents of a segment, and where each key stands in them.
use Rattle.std.specs.Prelude.{◌≡◌, ℕ, List, [], map, filter, IsTrue, slice_index_or}
use Rattle.std.specs.List.{enumerate_from, flat_map, list_any}
use Rattle.field_schema.specs.declared.key.Key.{Key}
use Rattle.field_schema.specs.declared.key.Key.TheVariants.{Token}
use Rattle.field_schema.specs.Keys.{key_eq}
use Rattle.field_schema.specs.Values.{values_at}
use Rattle.doc_model.specs.Document.{Document}
use Rattle.query_tree.specs.KeysOfDocs.{keys_of_value}
use Rattle.segment_postings.specs.declared.occurrence.Occurrence.{Occurrence}
use Rattle.segment_postings.specs.Postings.{has_key_at}
use Rattle.segment_postings.specs.Terms.{is_among}

-- what contracts see of a segment: its documents in order, and for each field the keys in it
pub record Part : Type 0 where
  pub docs : List Document
  pub keys : List (List Key)

-- a key of a value, with its index among the value's keys
abbrev pub occurrence : ℕ → ℕ → ℕ × Key → Occurrence
occurrence doc value e = record { key = e.1; place = record { doc = doc; value = value; token = e.0 } }

-- the keys of a value
abbrev pub of_value : ℕ → ℕ × Key → List Occurrence
of_value doc e = map (occurrence doc e.0) (enumerate_from 0 (keys_of_value e.1))

-- the tokens of a text
abbrev pub of_tokens : ℕ → ℕ → List (List ℕ) → List Occurrence
of_tokens doc value ts = map (λ e. occurrence doc value (e.0, Token e.1)) (enumerate_from 0 ts)

-- those of a document in a field
abbrev pub of_doc : ℕ → ℕ × Document → List Occurrence
of_doc field e = flat_map (of_value e.0) (enumerate_from 0 (values_at e.1.values field))

-- those of all documents in a field, in their order
abbrev pub occurrences : ℕ → List Document → List Occurrence
occurrences field docs = flat_map (of_doc field) (enumerate_from 0 docs)

-- those of one key
abbrev pub with_key : Key → List Occurrence → List Occurrence
with_key k os = filter (λ o. key_eq k o.key) os

-- each key's occurrences in the list are those in the field of the documents, in their order
pub record IsIndex (docs : List Document) (field : ℕ) (os : List Occurrence) : Type 0 where
  pub same : (k : Key) → with_key k os ≡ with_key k (occurrences field docs)

-- the occurrences of a field, none past the last
abbrev pub field_at : List (List Occurrence) → ℕ → List Occurrence
field_at fields field = slice_index_or fields field []

-- each field's list is its index
abbrev pub AreIndexes : List Document → List (List Occurrence) → Type 0
AreIndexes docs fields = (field : ℕ) → IsIndex docs field (field_at fields field)

-- the keys of each document in a field are among the segment's
abbrev pub IsPart : Part → Type 0
IsPart p = (field : ℕ) (k : Key) → IsTrue (list_any (has_key_at field k) p.docs) → IsTrue (is_among k (values_at p.keys field))
