-- What contracts see of a trace.
use Rattle.std.specs.Prelude.{ℕ, ◌∷◌, [], ◌++◌, List, Bool, true, ◌≡◌}
use Rattle.cache_traces.specs.declared.act.Act.{Act}
use Rattle.cache_traces.specs.declared.act.Step.{Step}

-- the keys in the order of their first uses, the calls in theirs, and how many more there is room for
pub record Traced (K N : Type 0) : Type 0 where
  pub keys : List K
  pub steps : List (Step K N)
  pub room : ℕ

-- keys that the test does not tell apart are one
abbrev pub AreSame : (K : Type 0) → (K → K → Bool) → Type 0
AreSame K eq = (x y : K) → eq x y ≡ true → x ≡ y

-- more keys stand behind the same
abbrev pub Grows : {K : Type 0} → List K → List K → Type 0
Grows {K} old new = (more : List K) × (new ≡ old ++ more)

module _ {K N : Type 0} where
  -- one more call
  abbrev pub and_then : List (Step K N) → ℕ → Act K N → List (Step K N)
  and_then steps seat act = steps ++ record { seat = seat; act = act } ∷ []
