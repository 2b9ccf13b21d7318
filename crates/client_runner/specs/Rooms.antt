-- The room that a run's numbers leave.
use Rattle.std.specs.Prelude.{◌≡◌, ℕ, ◌+◌, ◌*◌, ◌<◌, ◌≤◌, ◌^◌, Bool}
use Rattle.doc_sets.specs.declared.TheConstants.{MAX_DOCS}
use Rattle.client_runner.specs.declared.runner.Runner.{Runner}
use Rattle.client_runner.specs.Standings.{standing, first}

-- before the first request: no number is taken
pub record IsFirst (listened : Bool) (r : Runner) : Type 0 where
  pub standing_is : standing r ≡ first listened
  pub numbers : r.index.numbers ≡ 0

-- there is a next place
abbrev pub HasPlace : Runner → Type 0
HasPlace r = r.place + 1 < 2 ^ 64

-- its numbers leave room for n more requests
pub record HasRoom (n : ℕ) (r : Runner) : Type 0 where
  pub place : r.place + 2 * n < 2 ^ 64
  pub generation : r.current.generation + n < 2 ^ 27
  pub acquired : r.current.acquired + n < 2 ^ 32
  pub numbers : r.index.numbers + n ≤ MAX_DOCS

-- it has room for one request less
abbrev pub StaysReady : Runner → Runner → Type 0
StaysReady old new = (n : ℕ) → HasRoom (n + 1) old → HasRoom n new
