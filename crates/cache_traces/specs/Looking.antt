-- What a look-up by a number is answered, as the machine's answer to its key.
use Rattle.std.specs.Prelude.{ℕ, Bool, true, false, ◌&&◌, if◌then◌else◌, List}
use Rattle.cache_machine.specs.declared.look.Look.{Look}
use Rattle.cache_machine.specs.declared.look.Look.TheVariants as look
use Rattle.cache_traces.specs.declared.told.Told.{Told}
use Rattle.cache_traces.specs.declared.told.Told.TheVariants.{Hit, Joined, Owned}
use Rattle.cache_traces.specs.declared.cells.Looked.{Looked}
use Rattle.cache_traces.specs.declared.cells.Looked.TheVariants as looked
use Rattle.cache_traces.specs.declared.act.Step.{Step}
use Rattle.cache_traces.specs.declared.act.Act.TheVariants.{Looked as looks}
use Rattle.cache_traces.specs.Traced.{and_then}

-- the machine's answer for a key
abbrev pub answer_of : {K V : Type 0} → K → Looked V → Look K V
answer_of k (looked.Hit v) = look.Hit v
answer_of k (looked.Join owner) = look.Join k owner
answer_of k looked.Own = look.Own

-- the machine's answer for a number, for the key of that number
abbrev pub renamed : {J K V : Type 0} → K → Look J V → Look K V
renamed k (look.Hit v) = look.Hit v
renamed k (look.Join n owner) = look.Join k owner
renamed k look.Own = look.Own

-- the answer without the number
abbrev pub keyless : {J V : Type 0} → Look J V → Looked V
keyless (look.Hit v) = looked.Hit v
keyless (look.Join n owner) = looked.Join owner
keyless look.Own = looked.Own

abbrev pub told_of : {V : Type 0} → Looked V → Told
told_of (looked.Hit v) = Hit
told_of (looked.Join owner) = Joined owner
told_of looked.Own = Owned

abbrev pub is_joined : Told → Bool
is_joined Hit = false
is_joined (Joined owner) = true
is_joined Owned = false

-- A look-up that is asked again after Join, and answered Join again, is not told.
abbrev pub with_look : {K N : Type 0} → List (Step K N) → ℕ → K → ℕ → Bool → Told → List (Step K N)
with_look steps seat k need again t =
    if again && is_joined t then steps else and_then steps seat (looks k need again t)
