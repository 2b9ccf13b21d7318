-- What `check` tells of a script: its clients, lines, phases and requests, and the text of these.
use Rattle.std.specs.Prelude.{ℕ, ◌+◌, ◌==◌, List, [], ◌∷◌, ◌++◌, length, Bool, true, false, Option, Some, None, is_some, codes, count_by}
use Rattle.std.specs.List.{list_any, range_with_len}
use Rattle.std.specs.Option.{option_map_or}
use Rattle.serde_json.specs.Data.{Data, number, unsigned, object, member, no_members}
use Rattle.serde_json.specs.Written.{compact_text}
use Rattle.script_form.specs.ReadScript.{most_clients}
use Rattle.script_form.specs.declared.script.Line.{Line}
use Rattle.script_form.specs.declared.script.What.{What}
use Rattle.script_form.specs.declared.script.What.TheVariants as what
use Rattle.script_counts.specs.declared.counting.Counts.{Counts}

-- the client whose request it is, where it is one
abbrev pub client_of : What → Option ℕ
client_of (what.Add client body) = Some client
client_of (what.Delete client body) = Some client
client_of (what.Query client body) = Some client
client_of (what.Commit client body) = Some client
client_of what.PhaseEnd = None
client_of what.Nothing = None

abbrev pub is_request : Line → Bool
is_request line = is_some (client_of line.what)

abbrev pub ends_phase : What → Bool
ends_phase what.PhaseEnd = true
ends_phase _ = false

abbrev pub is_phase_end : Line → Bool
is_phase_end line = ends_phase line.what

-- the line is a request of that client
abbrev pub is_of : ℕ → Line → Bool
is_of client line = option_map_or (λ c. c == client) (client_of line.what) false

-- the client has a request
abbrev pub asks : List Line → ℕ → Bool
asks ls client = list_any (is_of client) ls

-- of the clients that there are those that have a request, all lines, one phase more than the lines that end one, and the requests
abbrev pub counts_of : List Line → Counts
counts_of ls = record {
  clients = count_by (asks ls) (range_with_len 1 most_clients);
  lines = length ls;
  phases = count_by is_phase_end ls + 1;
  requests = count_by is_request ls;
}

abbrev pub whole : ℕ → Data
whole n = number (unsigned n)

-- the counts as JSON
abbrev pub counts_data : Counts → Data
counts_data c =
    object (
    member (codes "clients") (whole c.clients) (
    member (codes "lines") (whole c.lines) (
    member (codes "phases") (whole c.phases) (
    member (codes "requests") (whole c.requests) no_members))))

-- the line that tells them
unfoldable pub counts_line : Counts → List ℕ
counts_line c = compact_text (counts_data c) ++ 10 ∷ []

-- the line that `check` writes of a script
abbrev pub check_text : List Line → List ℕ
check_text ls = counts_line (counts_of ls)
