-- Numbers that are not too great.
use Rattle.std.specs.Prelude.{ℕ, nat_le, Option, Some, None, if◌then◌else◌}

-- the number, if it is at most `most`
abbrev pub within : ℕ → ℕ → Option ℕ
within most n = if nat_le n most then Some n else None
