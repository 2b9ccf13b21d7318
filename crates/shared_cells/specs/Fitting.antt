-- When a cache with its trace fits a view, and a store with its calls.
use Rattle.std.specs.Prelude.{◌≡◌, ℕ, length, Option}
use Rattle.std.specs.List.{AllByRecursion}
use Rattle.cache_traces.specs.Traces.{Rules}
use Rattle.cache_traces.specs.TracedCache.{TracedCache, IsTraced}
use Rattle.cache_traces.specs.TracedStore.{TracedKept, IsTracedStore}

-- It has these bounds and so many seats, each entry is what an evaluation gives, and the calls led to it from the cache that keeps nothing.
pub record CellFits {K V N : Type 0} (r : Rules K V N) (fit : K → V → Type 0) (size : ℕ) (greatest : Option ℕ) (seats : ℕ)
    (t : TracedCache K V N) : Type 0 where
  pub size_is : t.cache.kept.size ≡ size
  pub greatest_is : t.cache.kept.greatest ≡ greatest
  pub seats_are : length t.cache.pending ≡ seats
  pub entries : AllByRecursion (λ e. fit e.0 e.1) t.cache.kept.entries
  pub traced : IsTraced r t

-- It has these bounds, each entry is what the view has, and the calls led to it from nothing kept.
pub record StoreFits {V N : Type 0} (r : Rules ℕ V N) (fit : ℕ → V → Type 0) (size : ℕ) (greatest : Option ℕ)
    (t : TracedKept V N) : Type 0 where
  pub size_is : t.kept.size ≡ size
  pub greatest_is : t.kept.greatest ≡ greatest
  pub entries : AllByRecursion (λ e. fit e.0 e.1) t.kept.entries
  pub traced : IsTracedStore r t
