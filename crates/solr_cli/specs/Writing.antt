-- What writing leaves.
use Rattle.std.specs.Prelude.{◌≡◌, ℕ, List, take, Bool, true, Option, option_map}
use Rattle.std.specs.Io.KnownBytes.{Appends}

-- a front of the text was appended
abbrev pub AppendsPart : Option (List ℕ) → Option (List ℕ) → List ℕ → Type 0
AppendsPart before now text = (n : ℕ) × Appends before now (take n text)

-- what was flushed is told as before, whatever it is
abbrev pub TellsFlushes : Option Bool → Option Bool → Type 0
TellsFlushes before now = option_map (λ b. true) now ≡ option_map (λ b. true) before
