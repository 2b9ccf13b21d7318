-- The calls of a script, each a request of a client in a line, and each with its row.
use Rattle.std.specs.Prelude.{ℕ, ◌+◌, List, [], ◌∷◌, ◌++◌, Option, Some, None}
use Rattle.std.specs.Option.{option_to_list}
use Rattle.script_form.specs.declared.script.Line.{Line}
use Rattle.script_form.specs.declared.script.What.{What}
use Rattle.script_form.specs.declared.script.What.TheVariants as what
use Rattle.run_laws.specs.Rows.{Verb, add, delete, query, commit, RequestRow}

-- a request, and the phase in which its line stands
pub record Call : Type 0 where
  pub phase : ℕ
  pub client : ℕ
  pub line : ℕ
  pub verb : Verb
  pub body : List ℕ

abbrev pub call_as : ℕ → ℕ → What → Option Call
call_as phase line (what.Add client body) = Some (record { phase = phase; client = client; line = line; verb = add; body = body })
call_as phase line (what.Delete client body) = Some (record { phase = phase; client = client; line = line; verb = delete; body = body })
call_as phase line (what.Query client body) = Some (record { phase = phase; client = client; line = line; verb = query; body = body })
call_as phase line (what.Commit client body) = Some (record { phase = phase; client = client; line = line; verb = commit; body = body })
call_as phase line _ = None

-- the phase behind a line
abbrev pub phase_behind : ℕ → What → ℕ
phase_behind phase what.PhaseEnd = phase + 1
phase_behind phase _ = phase

abbrev pub calls_from : ℕ → List Line → List Call
calls_from phase [] = []
calls_from phase (line ∷ lines) =
    option_to_list (call_as phase line.number line.what) ++ calls_from (phase_behind phase line.what) lines

-- the requests of a script, in its order
abbrev pub calls_of : List Line → List Call
calls_of script = calls_from 0 script

-- a request and its row
pub record Told : Type 0 where
  pub call : Call
  pub row : RequestRow

abbrev pub tell : List Call → List RequestRow → List Told
tell [] rows = []
tell (call ∷ calls) [] = []
tell (call ∷ calls) (row ∷ rows) = record { call = call; row = row } ∷ tell calls rows

-- P of each element, with those before it and those behind it
abbrev pub Each : {A : Type 0} → (List A → A → List A → Type 0) → List A → List A → Type 0
Each P before [] = Unit {0}
Each P before (x ∷ behind) = P before x behind × Each P (before ++ x ∷ []) behind
