-- Which documents have a key in a field, and where in it.
use Rattle.std.specs.Prelude.{ℕ, List, [], Bool, Option, Some, None, map, filter, if◌then◌else◌}
use Rattle.std.specs.List.{enumerate_from, flat_map, filter_map, list_any}
use Rattle.std.specs.FinSet.{contains}
use Rattle.field_schema.specs.declared.key.Key.{Key}
use Rattle.field_schema.specs.declared.key.Key.TheVariants as key
use Rattle.field_schema.specs.Keys.{key_eq}
use Rattle.field_schema.specs.Values.{values_at}
use Rattle.doc_model.specs.Document.{Document}
use Rattle.doc_sets.specs.Sets.{Numbers}
use Rattle.query_tree.specs.KeysOfDocs.{keys_of_value, keys_in}
use Rattle.segment_postings.specs.declared.posting.Posting.{Posting}
use Rattle.segment_postings.specs.Numbered.{Numbered}

-- the indices of a key among keys
abbrev pub indices_of : Key → List Key → List ℕ
indices_of k keys = map (λ e. e.0) (filter (λ e. key_eq k e.1) (enumerate_from 0 keys))

-- for each value that has the key, the value's index with those of the key among the value's keys
abbrev pub places_in : Key → List Key → List (ℕ × ℕ)
places_in k values = flat_map (λ e. map (λ j. (e.0, j)) (indices_of k (keys_of_value e.1))) (enumerate_from 0 values)

-- the places of a token; of other keys none are told
abbrev pub places_of : Key → List Key → List (ℕ × ℕ)
places_of (key.Token text) values = places_in (key.Token text) values
places_of k values = []

-- the document has the key in the field
abbrev pub has_key_at : ℕ → Key → Document → Bool
has_key_at field k d = list_any (key_eq k) (keys_in d.values field)

-- what is told of a document with the key
abbrev pub posting_of : ℕ → Key → ℕ × Document → Option Posting
posting_of field k e =
    if has_key_at field k e.1
    then Some (record { doc = e.0; places = places_of k (values_at e.1.values field) })
    else None

-- what is told of each live document with the key, ascending
abbrev pub postings_of : Numbered → ℕ → Key → List Posting
postings_of v field k = filter_map (posting_of field k) v.list

-- the same of the live ones of documents that are numbered from `base` on
abbrev pub postings_among : Numbers → ℕ → ℕ → Key → List Document → List Posting
postings_among live base field k docs =
    filter_map (posting_of field k) (filter (λ e. contains live e.0) (enumerate_from base docs))
