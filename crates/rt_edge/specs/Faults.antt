-- When a fault of the outside may be told.
use Rattle.std.specs.Prelude.{◌≡◌, ℕ, ◌+◌, ◌-◌, ◌^◌, ◌≤◌, min, Result, OnOk, OnErr}

-- the greatest number of a count of faults, at which it stands still
abbrev pub most_faults : ℕ
most_faults = 2 ^ 64 - 1

-- the count after one more, which stands still at its greatest number
abbrev pub one_more : ℕ → ℕ
one_more count = min (count + 1) most_faults

-- the count rose, or stands at its greatest number
abbrev pub Rose : ℕ → ℕ → Type 0
Rose before now = one_more before ≤ now

-- the count has risen where the call failed, has not fallen, and stands as before where the call did its work
pub record HasCause {T E : Type 0} (before now : ℕ) (result : Result T E) : Type 0 where
  pub later : before ≤ now
  pub failed : OnErr result (Rose before now)
  pub kept : OnOk result (now ≡ before)
