-- For private clauses alone: positions of words, and which of them the next word follows.
use Rattle.std.specs.Prelude.{ℕ, ◌+◌, List, [], ◌∷◌, Bool, false, ◌&&◌, ◌||◌, nat_eq, nat_lt, if◌then◌else◌, IsTrue}
use Rattle.std.specs.List.{list_any, list_all}
use Rattle.segment_postings.specs.declared.posting.Position.{Position}

-- the two positions are one
abbrev pub same_position : Position → Position → Bool
same_position p q = nat_eq q.doc p.doc && (nat_eq q.value p.value && nat_eq q.token p.token)

-- the position is among those
abbrev pub is_position : Position → List Position → Bool
is_position p ps = list_any (same_position p) ps

-- p stands in an earlier document than q, or in an earlier value of the same, or before it in the same value
abbrev pub is_ahead : Position → Position → Bool
is_ahead p q =
    nat_lt p.doc q.doc
    || (nat_eq p.doc q.doc && (nat_lt p.value q.value || (nat_eq p.value q.value && nat_lt p.token q.token)))

-- the positions ascend, and each stands once
abbrev pub PositionsRise : List Position → Type 0
PositionsRise [] = Unit {0}
PositionsRise (p ∷ ps) = IsTrue (list_all (is_ahead p) ps) × PositionsRise ps

-- the position so many tokens on
abbrev pub moved_on : ℕ → Position → Position
moved_on offset p = record { doc = p.doc; value = p.value; token = p.token + offset }

-- the positions from one on
abbrev pub from_position : Position → List Position → List Position
from_position p [] = []
from_position p (q ∷ qs) = if is_ahead q p then from_position p qs else q ∷ qs

-- the first of the positions is this one
abbrev pub begins_at : Position → List Position → Bool
begins_at p [] = false
begins_at p (q ∷ qs) = same_position p q
