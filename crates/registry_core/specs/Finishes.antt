-- The warmings that callers ended, as they are kept.
use Rattle.std.specs.Prelude.{ℕ, List, map, filter, ◌==◌}
use Rattle.registry_core.specs.declared.ended.Ended.{Ended}
use Rattle.registry_core.specs.declared.ended.Finish.{Finish}

-- the generations of which they are told
abbrev pub generations : List Ended → List ℕ
generations es = map (λ e. e.finish.generation) es

-- those of a seat's caller
abbrev pub finishes_of : ℕ → List Ended → List Finish
finishes_of n es = map (λ e. e.finish) (filter (λ e. e.seat == n) es)
