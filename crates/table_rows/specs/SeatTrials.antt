-- A log of the seats' calls, for the tests.
use Rattle.std.specs.Prelude.{◌≡◌, ℕ, ◌<◌, ◌≤◌, ◌==◌, if◌then◌else◌, Bool, cond, List, [], ◌∷◌, ◌++◌, length, slice_index_or}
use Rattle.view_cells.specs.declared.seat.Seat.{Seat}
use Rattle.view_cells.specs.Seats.{table_of, seat_count, view_of, IsIdle, IsSameSeat}

-- each call is below
abbrev pub IsBelow : ℕ → List (ℕ × ℕ) → Type 0
IsBelow most [] = Unit {0}
IsBelow most (c ∷ cs) = (c.1 < most) × IsBelow most cs

-- a call x of the seat n is added, or not
abbrev pub Adds : Bool → List (ℕ × ℕ) → ℕ → ℕ → List (ℕ × ℕ) → Type 0
Adds b cs n x new = new ≡ cond b (cs ++ (n, x) ∷ []) cs

-- the calls of a seat, in their order
abbrev pub done_by : ℕ → List (ℕ × ℕ) → List ℕ
done_by n [] = []
done_by n (c ∷ cs) = if c.0 == n then c.1 ∷ done_by n cs else done_by n cs

-- the seat holds nothing, and its view allows calls below this number
abbrev pub IsReady : {T E : Type 0} → ℕ → Seat T ℕ E → Type 0
IsReady most s = IsIdle s × (most ≤ view_of s)

module _ {T W E : Type 0} where
  -- the seat s is now t, and holds nothing
  pub record Worked (s t : Seat T W E) : Type 0 where
    pub seat : IsSameSeat s t
    pub idle : IsIdle t

  -- each seat has worked
  abbrev pub EachWorked : List (Seat T W E) → List (Seat T W E) → Type 0
  EachWorked old new = (i : ℕ) (d : Seat T W E) → i < length old → Worked (slice_index_or old i d) (slice_index_or new i d)

  -- the two seats of a table
  pub record ArePair (zero one : Seat T W E) : Type 0 where
    pub first : IsIdle zero × (zero.number ≡ 0)
    pub second : IsIdle one × (one.number ≡ 1) × (seat_count one ≡ 2)
    pub table : table_of zero ≡ table_of one
