-- What contracts say of a seat at a shared cache.
use Rattle.std.specs.Prelude.{◌≡◌, ◌++◌, ℕ, ◌<◌, Bool, true, Option, Some, List}
use Rattle.view_cells.specs.declared.seat.Seat.{Seat}
use Rattle.view_cells.specs.Seats.{IsIdle, IsSameSeat, view_of, own_list}
use Rattle.cache_traces.specs.declared.act.Act.{Act}
use Rattle.cache_traces.specs.declared.cells.Looked.{Looked}
use Rattle.cache_traces.specs.declared.cells.Looked.TheVariants as looked
use Rattle.cache_traces.specs.declared.told.Told.{Told}
use Rattle.cache_traces.specs.declared.told.Told.TheVariants.{Hit, Owned}
use Rattle.cache_traces.specs.Acts.{owned_after}
use Rattle.shared_cells.specs.Lists.{AskedBefore}
use Rattle.shared_cells.specs.declared.calls.Found.{Found}
use Rattle.shared_cells.specs.declared.calls.Found.TheVariants as found

-- the same seat, which holds nothing again
pub record IsBack {T W E : Type 0} (s t : Seat T W E) : Type 0 where
  pub seat : IsSameSeat s t
  pub idle : IsIdle t

module _ {T W K N : Type 0} where
  -- the key that the seat owns, by its list
  abbrev pub owned_key : Seat T W (Act K N) → Option K
  owned_key s = owned_after (own_list s)

  -- what is said of the key that the seat owns
  abbrev pub OfOwned : Seat T W (Act K N) → (K → Type 0) → Type 0
  OfOwned s P = (k : K) → owned_key s ≡ Some k → P k

  -- the seat holds nothing, and is one of the cache's
  pub record IsPlaced (seats : W → ℕ) (s : Seat T W (Act K N)) : Type 0 where
    pub idle : IsIdle s
    pub one_of : s.number < seats (view_of s)

-- whether it was asked again, and what was told at last
abbrev pub is_again : {V : Type 0} → Found V → Bool
is_again (found.Hit v again) = again
is_again (found.Own again) = again

abbrev pub told_by : {V : Type 0} → Found V → Told
told_by (found.Hit v again) = Hit
told_by (found.Own again) = Owned

abbrev pub FoundFits : {K V : Type 0} → (K → V → Type 0) → (V → Bool) → K → Found V → Type 0
FoundFits fit serves k (found.Hit v again) = fit k v × (serves v ≡ true)
FoundFits fit serves k (found.Own again) = Unit {0}

-- a value that was found fits its key, and serves
abbrev pub HitFits : {K V : Type 0} → (K → V → Type 0) → (V → Bool) → K → Looked V → Type 0
HitFits fit serves k (looked.Hit v) = fit k v × (serves v ≡ true)
HitFits fit serves k (looked.Join owner) = Unit {0}
HitFits fit serves k looked.Own = Unit {0}

-- For private clauses: of the looks so far, of seat s that is now t, each was answered Join.
pub record HasAsked {T W K N : Type 0} (k : K) (need : ℕ) (again : Bool) (s t : Seat T W (Act K N)) : Type 0 where
  pub back : IsBack s t
  pub acts : List (Act K N)
  pub before : AskedBefore k need again acts
  pub list : own_list t ≡ own_list s ++ acts
