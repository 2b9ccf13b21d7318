-- What contracts say of a value while a seat holds it.
use Rattle.std.specs.Prelude.{◌≡◌}
use Rattle.view_cells.specs.declared.seat.Seat.{Seat}
use Rattle.view_cells.specs.declared.held.Held.{Held}

module _ {T W E : Type 0} where
  -- the seat that holds it
  abbrev pub holder : Held T W E → Seat T W E
  holder h = h.seat.now

  -- the value as it is now
  abbrev pub value_in : Held T W E → T
  value_in h = h.value

  -- the value as it was taken
  abbrev pub value_taken : Held T W E → T
  value_taken h = h.taken.value

  -- the same, with this value
  abbrev pub with_value : Held T W E → T → Held T W E
  with_value h value = record h { value = value }

  -- the value is as it was taken
  abbrev pub IsFresh : Held T W E → Type 0
  IsFresh h = value_taken h ≡ value_in h
