-- All seats of a table, and what stands while they are joined.
use Rattle.std.specs.Prelude.{◌≡◌, ℕ, ◌<◌, ◌≤◌, List, length, slice_get, Some}
use Rattle.view_cells.specs.declared.seat.Seat.{Seat}
use Rattle.view_cells.specs.Lists.{AreDistinct}
use Rattle.view_cells.specs.Seats.{table_of, seat_count, view_of, lists_of, list_of, own_list, HasNumber, IsIdle}

module _ {T W E : Type 0} where
  -- the seat at this index has this number and holds nothing, and its table has so many seats
  pub record IsInRow (many i : ℕ) (s : Seat T W E) : Type 0 where
    pub idle : IsIdle s
    pub number : s.number ≡ i
    pub count : seat_count s ≡ many

  -- both are at one table, and name one view
  pub record AreTogether (s t : Seat T W E) : Type 0 where
    pub table : table_of s ≡ table_of t
    pub view : view_of s ≡ view_of t

  -- all seats of one table, in the order of their numbers
  pub record AllIdle (seats : List (Seat T W E)) : Type 0 where
    pub each : (i : ℕ) (s : Seat T W E) → slice_get seats i ≡ Some s → IsInRow (length seats) i s
    pub together :
        (i j : ℕ) (s t : Seat T W E) → slice_get seats i ≡ Some s → slice_get seats j ≡ Some t →
        AreTogether s t

  -- the value fits the view that they name
  abbrev pub FitsAll : (W → T → Type 0) → List (Seat T W E) → T → Type 0
  FitsAll fit seats value =
      (i : ℕ) (s : Seat T W E) → slice_get seats i ≡ Some s → fit (view_of s) value

  -- what the value keeps of each seat is the seat's own list
  abbrev pub KeepsEach : (T → ℕ → List E) → List (Seat T W E) → T → Type 0
  KeepsEach entries seats value =
      (i : ℕ) (s : Seat T W E) → slice_get seats i ≡ Some s → entries value i ≡ own_list s

  -- of all these seats some are left, and the others were joined into one, which has their lists
  pub record AreLeft (all left : List (Seat T W E)) (one : Seat T W E) : Type 0 where
    pub row : AllIdle all
    pub front : (i : ℕ) (s : Seat T W E) → slice_get left i ≡ Some s → slice_get all i ≡ Some s
    pub at : (i : ℕ) (s : Seat T W E) → slice_get all i ≡ Some s → AreTogether s one
    pub idle : IsIdle one
    pub count : seat_count one ≡ length all
    pub joined : (n : ℕ) → length left ≤ n → n < length all → HasNumber one n
    pub lists :
        AreDistinct (lists_of one) → (n : ℕ) (s : Seat T W E) → length left ≤ n →
        slice_get all n ≡ Some s → list_of one n ≡ own_list s
