-- How an input is read.
use Rattle.std.specs.Prelude.{◌≡◌, ℕ, List, ◌++◌, length, Option, Result, Err}
use Rattle.std.specs.Io.KnownBytes.{Consumes, IsAtEnd}
use Rattle.rt_edge.specs.Faults.{Rose}
use Rattle.solr_cli.specs.declared.reading.ReadRefusal.{ReadRefusal}
use Rattle.solr_cli.specs.declared.reading.ReadRefusal.TheVariants as refusal

-- a fault is told where the count rose, and all else where it is as before
abbrev pub TellsFaults : {A : Type 0} → ℕ → ℕ → Result A ReadRefusal → Type 0
TellsFaults before now (Err refusal.Fault) = Rose before now
TellsFaults before now _ = now ≡ before

-- the bytes have grown by n that the source gave; none only at the end
abbrev pub HasRead : Option (List ℕ) → Option (List ℕ) → List ℕ → List ℕ → ℕ → Type 0
HasRead before now old new n =
    (more : List ℕ) × (new ≡ old ++ more) × (length more ≡ n) × Consumes before now more × (n ≡ 0 → IsAtEnd now)
