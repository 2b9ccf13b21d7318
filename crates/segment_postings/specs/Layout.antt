-- Keys, each once, with their places in one row.
use Rattle.std.specs.Prelude.{◌≡◌, ℕ, ◌-◌, ◌<◌, ◌≤◌, Bool, true, false, ◌||◌, List, [], ◌∷◌, ◌++◌, map, take, drop, length, nat_lt, if◌then◌else◌}
use Rattle.field_schema.specs.declared.key.Key.{Key}
use Rattle.field_schema.specs.Keys.{key_eq}
use Rattle.segment_postings.specs.declared.laid.Term.{Term}
use Rattle.segment_postings.specs.declared.occurrence.Occurrence.{Occurrence}
use Rattle.segment_postings.specs.declared.occurrence.Place.{Place}
use Rattle.segment_postings.specs.Terms.{is_before, begins_with}

-- where the places of the first of some terms begin
abbrev pub start_of : List Term → List Place → ℕ
start_of [] ps = length ps
start_of (t ∷ ts) ps = t.start

-- the places of a term, with those of the terms behind it
abbrev pub own_places : Term → List Term → List Place → List Place
own_places t rest ps = take (start_of rest ps - t.start) (drop t.start ps)

-- those of the first of some terms
abbrev pub first_places : List Term → List Place → List Place
first_places [] ps = []
first_places (t ∷ ts) ps = own_places t ts ps

-- a key at places
abbrev pub at_places : Key → List Place → List Occurrence
at_places k ps = map (λ p. record { key = k; place = p }) ps

-- each term at its places, one term after another
abbrev pub spelled : List Term → List Place → List Occurrence
spelled [] ps = []
spelled (t ∷ ts) ps = at_places t.key (own_places t ts ps) ++ spelled ts ps

-- each term has places, which end where those of the next begin
abbrev pub IsLaid : List Term → List Place → Type 0
IsLaid [] ps = Unit {0}
IsLaid (t ∷ ts) ps = (t.start < start_of ts ps) × (start_of ts ps ≤ length ps) × IsLaid ts ps

-- the key is the last one
abbrev pub ends_with : Key → List Term → Bool
ends_with k [] = false
ends_with k (t ∷ []) = key_eq t.key k
ends_with k (t ∷ u ∷ ts) = ends_with k (u ∷ ts)

-- a key more, where it is not the last one
abbrev pub add_term : List Term → Key → ℕ → List Term
add_term ts k n = if ends_with k ts then ts else ts ++ record { key = k; start = n } ∷ []

-- the places of a key, where the terms begin with it
abbrev pub own_of : Key → List Term → List Place → List Place
own_of k [] ps = []
own_of k (t ∷ ts) ps = if key_eq k t.key then own_places t ts ps else []

-- the terms behind a key, where they begin with it, and all where they don't
abbrev pub behind_of : Key → List Term → List Term
behind_of k [] = []
behind_of k (t ∷ ts) = if key_eq k t.key then ts else t ∷ ts

-- a key more, where places from `start` on were added
abbrev pub put_term : List Term → Key → ℕ → ℕ → List Term
put_term ts k start end = if nat_lt start end then ts ++ record { key = k; start = start } ∷ [] else ts

-- the first of the terms does not stand before the key
abbrev pub NoneBefore : Key → List Term → Type 0
NoneBefore k [] = Unit {0}
NoneBefore k (t ∷ ts) = is_before t.key k ≡ false

-- the key is the least of those that two rows of terms begin with
pub record IsLeast (k : Key) (left right : List Term) : Type 0 where
  pub low_left : NoneBefore k left
  pub low_right : NoneBefore k right
  pub begins : (begins_with k (map (λ t. t.key) left) || begins_with k (map (λ t. t.key) right)) ≡ true
