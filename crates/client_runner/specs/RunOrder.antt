-- In which order a script's requests are served: phase by phase, the clients of a phase by number, each client's lines in turn.
use Rattle.std.specs.Prelude.{ℕ, ◌+◌, ◌*◌, ◌^◌, ◌<◌, List, [], ◌∷◌, ◌++◌, Option, Some, None, option_map, option_and_then, unwrap_or, slice_get, IfSome}
use Rattle.std.specs.Option.{option_to_list}
use Rattle.script_form.specs.declared.script.Line.{Line}
use Rattle.script_form.specs.declared.script.What.{What}
use Rattle.script_form.specs.declared.script.What.TheVariants as what
use Rattle.run_laws.specs.Rows.{add}
use Rattle.run_laws.specs.Calls.{Call, call_as, phase_behind}
use Rattle.client_runner.specs.declared.order.Turn.{Turn}

-- the client of a line that asks for something
abbrev pub client_of : What → Option ℕ
client_of (what.Add client body) = Some client
client_of (what.Delete client body) = Some client
client_of (what.Query client body) = Some client
client_of (what.Commit client body) = Some client
client_of _ = None

-- what rises from turn to turn as they are served: the phase, then the client, then the line
abbrev pub key_of : ℕ → ℕ → ℕ → ℕ
key_of phase client index = (phase * 16 + client) * 2 ^ 32 + index

abbrev pub turn_of : ℕ → ℕ → What → Option Turn
turn_of phase index w = option_map (λ client. record { key = key_of phase client index; phase = phase; index = index }) (client_of w)

-- the turns of the lines from an index on that ask for something, in the order of the script
abbrev pub turns_from : ℕ → ℕ → List Line → List Turn
turns_from phase index [] = []
turns_from phase index (line ∷ lines) =
    option_to_list (turn_of phase index line.what) ++ turns_from (phase_behind phase line.what) (index + 1) lines

-- a request that nobody made
abbrev pub nobody : Call
nobody = record { phase = 0; client = 0; line = 0; verb = add; body = [] }

-- the request of a turn
abbrev pub call_at : List Line → Turn → Call
call_at script t = unwrap_or (option_and_then (λ line. call_as t.phase line.number line.what) (slice_get script t.index)) nobody
