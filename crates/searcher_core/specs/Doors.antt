-- Doors to a searcher.
use Rattle.std.specs.Prelude.{◌≡◌, ℕ, List, [], slice_get, Some}
use Rattle.std.specs.Arc.{arc_value}
use Rattle.view_cells.specs.Seats.{own_list, seat_count, table_of}
use Rattle.searcher_core.specs.Shows.{Shows}
use Rattle.searcher_core.specs.Seating.{AreSeatsOf}
use Rattle.searcher_core.specs.declared.seats.Seats.{Seats}
use Rattle.searcher_core.specs.declared.searcher.Door.{Door}

-- the seats have this number, and called nothing
pub record AreNew (i : ℕ) (s : Seats) : Type 0 where
  pub filter_number : s.filters.number ≡ i
  pub result_number : s.results.number ≡ i
  pub document_number : s.documents.number ≡ i
  pub filter_calls : own_list s.filters ≡ []
  pub result_calls : own_list s.results ≡ []
  pub document_calls : own_list s.documents ≡ []

-- each of the three caches has so many seats
pub record AreCounted (many : ℕ) (s : Seats) : Type 0 where
  pub filters : seat_count s.filters ≡ many
  pub results : seat_count s.results ≡ many
  pub documents : seat_count s.documents ≡ many

-- a door to a searcher that shows this, and that nobody went through
pub record IsNewDoor (w : Shows) (i : ℕ) (d : Door) : Type 0 where
  pub searcher : arc_value d.searcher ≡ w
  pub seats : AreSeatsOf w d.seats
  pub unused : AreNew i d.seats
  pub counted : AreCounted w.seats d.seats

-- both are seats at the same three caches
pub record AreTogether (s t : Seats) : Type 0 where
  pub filters : table_of s.filters ≡ table_of t.filters
  pub results : table_of s.results ≡ table_of t.results
  pub documents : table_of s.documents ≡ table_of t.documents

-- new doors to one searcher, numbered from 0 on
pub record AreDoors (w : Shows) (doors : List Door) : Type 0 where
  pub each : (i : ℕ) (d : Door) → slice_get doors i ≡ Some d → IsNewDoor w i d
  pub together :
      (i j : ℕ) (d e : Door) → slice_get doors i ≡ Some d → slice_get doors j ≡ Some e → AreTogether d.seats e.seats
