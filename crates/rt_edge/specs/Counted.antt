-- A stream of std with a count of its faults.
use Rattle.std.specs.Prelude.{ℕ}

-- the stream itself, and how many of its calls have failed
pub record Counted (S : Type 0) : Type 0 where
  pub inner : S
  pub faults : ℕ
