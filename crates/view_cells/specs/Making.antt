-- What stands while the seats of a new table are made.
use Rattle.std.specs.Prelude.{◌≡◌, ℕ, ◌-◌, List, [], ◌∷◌, length, slice_get, Some}
use Rattle.view_cells.specs.declared.seat.Seat.{Seat}
use Rattle.view_cells.specs.Lists.{blank}
use Rattle.view_cells.specs.Seats.{table_of, view_of, seat_count, IsNew}

module _ {T W E : Type 0} (view : W) (count : ℕ) where
  -- the seat that has all numbers from its own on
  abbrev pub IsLast : ℕ → Seat T W E → Type 0
  IsLast number = IsNew view count number (blank number (count - number))

  -- the seats that are made, at the table of the last
  pub record AreFirst (seats : List (Seat T W E)) (other : Seat T W E) : Type 0 where
    pub each : (i : ℕ) (s : Seat T W E) → slice_get seats i ≡ Some s → IsNew view count i (record { number = i; entries = [] } ∷ []) s × (table_of s ≡ table_of other)
    pub last : IsLast (length seats) other

module _ {T W E : Type 0} where
  -- the seat has all numbers from its own on
  abbrev pub HasTheRest : Seat T W E → Type 0
  HasTheRest s = IsLast (view_of s) (seat_count s) s.number s

  -- the seat s has kept its own number alone and is now t
  abbrev pub KeepsOwn : Seat T W E → Seat T W E → Type 0
  KeepsOwn s = IsNew (view_of s) (seat_count s) s.number (record { number = s.number; entries = [] } ∷ [])
