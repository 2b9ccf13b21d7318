-- The only door of a searcher.
use Rattle.std.specs.Prelude.{◌≡◌}
use Rattle.view_cells.specs.declared.seat.Seat.{Seat}
use Rattle.view_cells.specs.Seats.{seat_count}
use Rattle.searcher_core.specs.declared.searcher.Door.{Door}

-- the seat is the only one of its table
pub record IsOnlySeat {T W E : Type 0} (s : Seat T W E) : Type 0 where
  pub number : s.number ≡ 0
  pub count : seat_count s ≡ 1

-- each cache of its searcher has no other seat
pub record IsOnly (d : Door) : Type 0 where
  pub filters : IsOnlySeat d.seats.filters
  pub results : IsOnlySeat d.seats.results
  pub documents : IsOnlySeat d.seats.documents
