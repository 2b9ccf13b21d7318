-- A seat at a shared cache of a searcher, between two calls.
use Rattle.std.specs.Prelude.{◌≡◌, None}
use Rattle.cache_traces.specs.declared.act.Act.{Act}
use Rattle.view_cells.specs.declared.seat.Seat.{Seat}
use Rattle.shared_cells.specs.Seated.{IsPlaced, owned_key}
use Rattle.searcher_cells.specs.Sights.{Sight}

-- the seat is one of its cache's, holds nothing, and owns no key
pub record IsAtRest {T K N : Type 0} (s : Seat T Sight (Act K N)) : Type 0 where
  pub placed : IsPlaced (λ v. v.seats) s
  pub owns : owned_key s ≡ None
