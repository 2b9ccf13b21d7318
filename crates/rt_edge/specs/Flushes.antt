-- Whether all that a sink holds was flushed, where the sink tells it.
use Rattle.std.specs.Prelude.{◌≡◌, Bool, true, false, Option, option_map, Result, MatchResult}

-- what is told is now this truth, and what is not told stays untold
abbrev pub IsTold : Option Bool → Option Bool → Bool → Type 0
IsTold old new truth = new ≡ option_map (λ _. truth) old

-- a good write leaves something unflushed, and a failed one changes nothing
abbrev pub WriteUnflushes : {T E : Type 0} → Option Bool → Option Bool → Result T E → Type 0
WriteUnflushes old new result = MatchResult result (λ _. IsTold old new false) (λ _. new ≡ old)

-- a good flush leaves nothing unflushed, and a failed one changes nothing
abbrev pub FlushFlushes : {T E : Type 0} → Option Bool → Option Bool → Result T E → Type 0
FlushFlushes old new result = MatchResult result (λ _. IsTold old new true) (λ _. new ≡ old)
