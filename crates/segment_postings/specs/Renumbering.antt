-- Documents that get new numbers, and their places.
use Rattle.std.specs.Prelude.{◌≡◌, ℕ, zero, suc, ◌+◌, List, [], ◌∷◌, ◌++◌, Option, Some, None, slice_index_or, if◌then◌else◌}
use Rattle.std.specs.List.{filter_map, cons_option}
use Rattle.std.specs.Option.{option_map}
use Rattle.std.specs.FinSet.{contains}
use Rattle.field_schema.specs.declared.key.Key.{Key}
use Rattle.doc_sets.specs.Sets.{Numbers}
use Rattle.segment_postings.specs.declared.occurrence.Occurrence.{Occurrence}
use Rattle.segment_postings.specs.declared.occurrence.Place.{Place}
use Rattle.segment_postings.specs.Segments.{with_key, field_at}

-- the new number of a document, if it stays
abbrev pub new_number : List (Option ℕ) → ℕ → Option ℕ
new_number moves doc = slice_index_or moves doc None

-- the place in the document that has the new number, if there is one
abbrev pub moved_to : Place → Option ℕ → Option Place
moved_to p number = option_map (λ n. record { doc = n; value = p.value; token = p.token }) number

-- the same as a list
abbrev pub told_moved : Place → Option ℕ → List Place
told_moved p number = cons_option (moved_to p number) []

-- a place in a document that stays
abbrev pub moved_place : List (Option ℕ) → Place → Option Place
moved_place moves p = moved_to p (new_number moves p.doc)

-- the places in documents that stay
abbrev pub moved_places : List (Option ℕ) → List Place → List Place
moved_places moves ps = filter_map (moved_place moves) ps

-- the keys at them
abbrev pub moved : List (Option ℕ) → List Occurrence → List Occurrence
moved moves os = filter_map (λ o. option_map (λ p. record { key = o.key; place = p }) (moved_place moves o.place)) os

-- of `count` documents, of which the first has the number `base`, the live ones get the numbers from `first` on
abbrev pub moves_from : Numbers → ℕ → ℕ → ℕ → List (Option ℕ)
moves_from live base first zero = []
moves_from live base first (suc count) =
    (if contains live base then Some first else None)
    ∷ moves_from live (base + 1) (if contains live base then first + 1 else first) count

-- of each key the places in the first documents that stay, and then those in the second
pub record IsJoined (first : List Occurrence) (first_moves : List (Option ℕ)) (second : List Occurrence) (second_moves : List (Option ℕ)) (all : List Occurrence) : Type 0 where
  pub same : (k : Key) → with_key k all ≡ moved first_moves (with_key k first) ++ moved second_moves (with_key k second)

-- the same of each field
abbrev pub AreJoined : List (List Occurrence) → List (Option ℕ) → List (List Occurrence) → List (Option ℕ) → List (List Occurrence) → Type 0
AreJoined first first_moves second second_moves all =
    (field : ℕ) → IsJoined (field_at first field) first_moves (field_at second field) second_moves (field_at all field)
