-- Where a key stands in the documents of a view.
use Rattle.std.specs.Prelude.{ℕ, ◌+◌, List, [], ◌∷◌, map, filter, if◌then◌else◌}
use Rattle.std.specs.List.{enumerate_from, flat_map}
use Rattle.std.specs.FinSet.{contains}
use Rattle.field_schema.specs.declared.key.Key.{Key}
use Rattle.field_schema.specs.Values.{values_at}
use Rattle.doc_model.specs.Document.{Document}
use Rattle.doc_sets.specs.Sets.{Numbers}
use Rattle.segment_postings.specs.declared.occurrence.Place.{Place}
use Rattle.segment_postings.specs.declared.posting.Position.{Position}
use Rattle.segment_postings.specs.Numbered.{Numbered}
use Rattle.segment_postings.specs.Postings.{places_in}

-- a place in the document of a number
abbrev pub position : ℕ → ℕ × ℕ → Position
position n p = record { doc = n; value = p.0; token = p.1 }

-- the places of a key in a document
abbrev pub positions_in : ℕ → Key → ℕ × Document → List Position
positions_in field k e = map (position e.0) (places_in k (values_at e.1.values field))

-- those in all live documents of a view, in their order
abbrev pub positions_of : Numbered → ℕ → Key → List Position
positions_of v field k = flat_map (positions_in field k) v.list

-- the same of the live ones of documents that are numbered from `base` on
abbrev pub positions_among : Numbers → ℕ → ℕ → Key → List Document → List Position
positions_among live base field k docs =
    flat_map (positions_in field k) (filter (λ e. contains live e.0) (enumerate_from base docs))

-- what is told of a place, where its document is live
abbrev pub told_position : Numbers → ℕ → Place → List Position
told_position live n p = if contains live n then position n (p.value, p.token) ∷ [] else []

-- what is told of places, of which the first document has the number `base`
abbrev pub positions_at : Numbers → ℕ → List Place → List Position
positions_at live base places = flat_map (λ p. told_position live (base + p.doc) p) places
