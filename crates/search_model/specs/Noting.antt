-- What notes may tell of a request that was answered.
use Rattle.std.specs.Prelude.{◌≡◌, List, [], ◌∷◌, Bool, true, false}
use Rattle.search_model.specs.declared.notes.Note.{Note}
use Rattle.search_model.specs.declared.notes.Note.TheVariants.{Hit, Joined, Bypassed}

-- the note of a query that may use a cache, or may not
abbrev pub IsNote : Bool → Note → Type 0
IsNote true Bypassed = ⊥
IsNote true note = Unit {0}
IsNote false note = note ≡ Bypassed

-- one for each filter in their order, by whether it may use its cache
abbrev pub AreNotes : List Bool → List Note → Type 0
AreNotes [] [] = Unit {0}
AreNotes (may ∷ others) (n ∷ ns) = IsNote may n × AreNotes others ns
AreNotes _ _ = ⊥

-- those of the filters, by that of the result: where this was there already, no filter was asked for
abbrev pub AreNotesAfter : Note → List Bool → List Note → Type 0
AreNotesAfter Hit filters ns = ns ≡ []
AreNotesAfter Joined filters ns = ns ≡ []
AreNotesAfter _ filters ns = AreNotes filters ns
