-- Postings gathered from the places of a key, document by document.
use Rattle.std.specs.Prelude.{ℕ, ◌+◌, ◌<◌, List, [], ◌∷◌, ◌++◌, Bool, true, false, fold, nat_eq, if◌then◌else◌}
use Rattle.std.specs.FinSet.{contains}
use Rattle.field_schema.specs.declared.key.Key.{Key}
use Rattle.field_schema.specs.declared.key.Key.TheVariants as key
use Rattle.doc_sets.specs.Sets.{Numbers}
use Rattle.segment_postings.specs.declared.posting.Posting.{Posting}
use Rattle.segment_postings.specs.declared.occurrence.Place.{Place}

-- the last posting, if any, stands before a number
abbrev pub EndsBefore : ℕ → List Posting → Type 0
EndsBefore base [] = Unit {0}
EndsBefore base (p ∷ []) = p.doc < base
EndsBefore base (p ∷ q ∷ ps) = EndsBefore base (q ∷ ps)

-- places are told of this key
abbrev pub has_places : Key → Bool
has_places (key.Token text) = true
has_places k = false

-- a place of a document, behind those of the postings
abbrev pub put_place : List Posting → ℕ → List (ℕ × ℕ) → List Posting
put_place [] doc places = record { doc = doc; places = places } ∷ []
put_place (p ∷ []) doc places =
    if nat_eq p.doc doc
    then record { doc = p.doc; places = p.places ++ places } ∷ []
    else p ∷ record { doc = doc; places = places } ∷ []
put_place (p ∷ q ∷ ps) doc places = p ∷ put_place (q ∷ ps) doc places

-- what is told of a place
abbrev pub told_at : Bool → Place → List (ℕ × ℕ)
told_at told place = if told then (place.value, place.token) ∷ [] else []

-- a place more, where its document is live
abbrev pub gather_one : Numbers → ℕ → Bool → List Posting → Place → List Posting
gather_one live base told ps p =
    if contains live (base + p.doc)
    then put_place ps (base + p.doc) (told_at told p)
    else ps

-- the postings of places that stand in the order of their documents
abbrev pub gathered : Numbers → ℕ → Bool → List Posting → List Place → List Posting
gathered live base told ps places = fold (gather_one live base told) ps places
