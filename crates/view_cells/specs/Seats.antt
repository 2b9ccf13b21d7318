-- What contracts say of a seat and of a value that is held.
use Rattle.std.specs.Prelude.{◌≡◌, ◌≢◌, ℕ, ◌+◌, ◌<◌, true, List, [], ◌∷◌, ◌++◌, slice_get, Some, None}
use Rattle.std.specs.Arc.{arc_value}
use Rattle.atomic_table.specs.Seated.{TableId}
use Rattle.view_cells.specs.declared.board.Listing.{Listing}
use Rattle.view_cells.specs.declared.seat.Seat.{Seat}
use Rattle.view_cells.specs.Lists.{names, entries_of, with_first}

-- the list begins with the other
abbrev pub StartsWith : {E : Type 0} → List E → List E → Type 0
StartsWith {E} whole start = (rest : List E) × (whole ≡ start ++ rest)

module _ {T W E : Type 0} where
  -- the table that the seat is at
  abbrev pub table_of : Seat T W E → TableId
  table_of s = s.place.table_id

  -- the view that the table's value fits whenever nobody holds it
  abbrev pub view_of : Seat T W E → W
  view_of s = (arc_value s.table).shared.key.view.value

  -- how many seats the table was made with
  abbrev pub seat_count : Seat T W E → ℕ
  seat_count s = (arc_value s.table).shared.key.seats

  -- the lists of this seat and of those that were joined into it
  abbrev pub lists_of : Seat T W E → List (Listing E)
  lists_of s = s.place.me.0.lists

  -- whether the number is this seat's or that of a seat that was joined into it
  abbrev pub HasNumber : Seat T W E → ℕ → Type 0
  HasNumber s n = names n (lists_of s) ≡ true

  -- the list of the seat of this number, which is this seat or was joined into it
  abbrev pub list_of : Seat T W E → ℕ → List E
  list_of s n = entries_of n (lists_of s)

  -- the seat's own list
  abbrev pub own_list : Seat T W E → List E
  own_list s = list_of s s.number

  -- the lock word as each of the seat's tries to take the value has found it
  abbrev pub tries_of : Seat T W E → List ℕ
  tries_of s = s.place.me.0.tries

  -- the seat s has tried once more, found this word, and is now t
  abbrev pub Finds : Seat T W E → Seat T W E → ℕ → Type 0
  Finds s t word = tries_of t ≡ tries_of s ++ word ∷ []

  -- after some tries that found other words, one found the lock word 0
  abbrev pub FindsAtLast : Seat T W E → Seat T W E → Type 0
  FindsAtLast s t = (words : List ℕ) × (tries_of t ≡ (tries_of s ++ words) ++ 0 ∷ [])

  -- the seat holds no value
  abbrev pub IsIdle : Seat T W E → Type 0
  IsIdle s = (s.place.me.0.taken ≡ None) × (s.place.me.1 ≡ [])

  -- a seat at a table for this view, of so many seats, which has done nothing yet and has these lists
  pub record IsNew (about : W) (seats n : ℕ) (ls : List (Listing E)) (s : Seat T W E) : Type 0 where
    pub view : view_of s ≡ about
    pub count : seat_count s ≡ seats
    pub number : s.number ≡ n
    pub lists : lists_of s ≡ ls
    pub idle : IsIdle s
    pub tries : tries_of s ≡ []

  -- new seats at one table, numbered from 0 on, each with an empty list of its own
  pub record AreSeats (view : W) (count : ℕ) (seats : List (Seat T W E)) : Type 0 where
    pub each : (i : ℕ) (s : Seat T W E) → slice_get seats i ≡ Some s → IsNew view count i (record { number = i; entries = [] } ∷ []) s
    pub one_table : (i j : ℕ) (s t : Seat T W E) → slice_get seats i ≡ Some s → slice_get seats j ≡ Some t → table_of s ≡ table_of t

  -- all other seats of the table were joined into this one
  abbrev pub IsSole : Seat T W E → Type 0
  IsSole s = (n : ℕ) → n < seat_count s → HasNumber s n

  -- one seat, at one table
  pub record IsSameSeat (s t : Seat T W E) : Type 0 where
    pub table : table_of t ≡ table_of s
    pub view : view_of t ≡ view_of s
    pub count : seat_count t ≡ seat_count s
    pub number : t.number ≡ s.number

  -- the seat s has found the lock word to name another seat, by, and is now t, with its lists as before
  pub record IsRefused (s t : Seat T W E) (by : ℕ) : Type 0 where
    pub seat : IsSameSeat s t
    pub lists : lists_of t ≡ lists_of s
    pub idle : IsIdle t
    pub word : Finds s t (by + 1)

  -- the seat s has tried some times and is now t, with its lists as before
  pub record IsWaiting (s t : Seat T W E) : Type 0 where
    pub seat : IsSameSeat s t
    pub lists : lists_of t ≡ lists_of s
    pub idle : IsIdle t
    pub words : (words : List ℕ) × (tries_of t ≡ tries_of s ++ words)

  -- a value that was taken, and that its seat holds outside the cell
  pub record IsHolding (s : Seat T W E) (value : T) : Type 0 where
    pub taken : s.place.me.0.taken ≡ Some value
    pub out : s.place.me.1 ≡ (0, None) ∷ []

  -- the seat s has taken the value and is now t
  pub record HasTaken (s t : Seat T W E) (value : T) : Type 0 where
    pub seat : IsSameSeat s t
    pub lists : lists_of t ≡ lists_of s
    pub holding : IsHolding t value

  -- the seat s has taken in the seat other and is now t
  pub record HasJoined (s other t : Seat T W E) : Type 0 where
    pub seat : IsSameSeat s t
    pub lists : lists_of t ≡ lists_of s ++ lists_of other
    pub idle : IsIdle t

  module _ (Fit : W → T → Type 0) (entries : T → ℕ → List E) where
    -- the value fits the seat's view, and what it keeps of the seat is the seat's own list; so too of each seat that was joined into it
    pub record FitsSeat (s : Seat T W E) (value : T) : Type 0 where
      pub view : Fit (view_of s) value
      pub own : entries value s.number ≡ own_list s
      pub lists : (n : ℕ) → HasNumber s n → entries value n ≡ list_of s n

  -- another seat of the table has this number
  abbrev pub IsAnother : Seat T W E → ℕ → Type 0
  IsAnother s n = (n < seat_count s) × (n ≢ s.number)

  module _ (entries : T → ℕ → List E) where
    -- what the value keeps of every other seat of the table is what it kept as it was taken
    abbrev pub KeepsOthers : Seat T W E → T → T → Type 0
    KeepsOthers s taken value = (n : ℕ) → n < seat_count s → n ≢ s.number → entries value n ≡ entries taken n

    -- what the value keeps of each seat of the table is the list that this seat has of it
    abbrev pub KeepsLists : Seat T W E → T → Type 0
    KeepsLists s value = (n : ℕ) → n < seat_count s → entries value n ≡ list_of s n

    -- what the value keeps of the seat begins with the seat's list
    abbrev pub GoesOn : Seat T W E → T → Type 0
    GoesOn s value = StartsWith (entries value s.number) (own_list s)

    -- the seat s has put the value back and is now t, whose own list is what the value keeps of it
    pub record HasPutBack (s t : Seat T W E) (value : T) : Type 0 where
      pub seat : IsSameSeat s t
      pub lists : lists_of t ≡ with_first (entries value s.number) (lists_of s)
      pub own : own_list t ≡ entries value s.number
      pub idle : IsIdle t
