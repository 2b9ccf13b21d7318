-- What a seat or a held value ends as where a call lends it.
use Rattle.std.specs.Prelude.{[], Result, IfErr}
use Rattle.std.specs.Borrow.{Lends, RestsIfErr, MutBor, Fml, RattleType}
use mir.Syntax.{named}
use Rattle.view_cells.specs.declared.fits.Fits.{Ghosts}
use Rattle.view_cells.specs.declared.seat.Seat.{Seat}
use Rattle.view_cells.specs.declared.seat.Busy.{Busy}
use Rattle.view_cells.specs.declared.held.Held.{Held}
use Rattle.view_cells.specs.contracts.seat.Seat as seat
use Rattle.view_cells.specs.contracts.held.Held as held
use Rattle.view_cells.specs.Seats.{IsRefused}
use Rattle.view_cells.specs.Helds.{with_value}

module _ (T W E : RattleType) (fits : Ghosts T.Denot W.Denot E.Denot) where
  -- the seat is what the held value leaves of it, or was refused
  abbrev pub seat_rests : MutBor (Seat T.Denot W.Denot E.Denot) → Result (Held T.Denot W.Denot E.Denot) Busy → Fml
  seat_rests s r = RestsIfErr (seat.the_row T W E fits) s (λ h. h.seat.ghost_name) r (λ last. IfErr r (λ busy. IsRefused s.now last busy.by))

  -- what is held ends with the value that was written last
  abbrev pub lends_value : MutBor (Held T.Denot W.Denot E.Denot) → MutBor T.Denot → Fml
  lends_value h r = Lends (held.the_row (record { mir = named 1; lft = [] }) T W E fits) T h r (with_value h.now)
