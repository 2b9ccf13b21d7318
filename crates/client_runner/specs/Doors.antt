-- The door of the searcher that serves.
use Rattle.std.specs.Prelude.{◌≡◌, List}
use Rattle.std.specs.Arc.{arc_value}
use Rattle.doc_model.specs.Document.{Document}
use Rattle.segment_postings.specs.Numbered.{Numbered, docs}
use Rattle.searcher_core.specs.declared.searcher.Door.{Door}
use Rattle.searcher_core.specs.declared.sizes.CacheSizes.{CacheSizes}
use Rattle.searcher_core.specs.Doors.{IsNewDoor}
use Rattle.searcher_core.specs.Seating.{AreSameSeats, AreSeatsOf}
use Rattle.searcher_core.specs.Shows.{shows}

-- its searcher sees these documents, and its seats are that searcher's
pub record IsDoorTo (served : List Document) (d : Door) : Type 0 where
  pub sees : docs (arc_value d.searcher).view ≡ served
  pub seats_are : AreSeatsOf (arc_value d.searcher) d.seats

-- the one door to a new searcher of this view and these sizes
abbrev pub IsOnlyDoor : Numbered → CacheSizes → Door → Type 0
IsOnlyDoor view sizes d = IsNewDoor (shows view sizes 1) 0 d

-- the same searcher, and the same seats
pub record IsSameDoor (d e : Door) : Type 0 where
  pub searcher : e.searcher ≡ d.searcher
  pub seats : AreSameSeats d.seats e.seats
