-- Which lines a script has, and its first fault.
use Rattle.std.specs.Prelude.{ℕ, ◌+◌, List, [], ◌∷◌, length, Bool, true, false, ◌||◌, ◌==◌, if◌then◌else◌, Some, None, Result, Ok, Err, codes, slice_index}
use Rattle.std.specs.List.{before_first, after_first}
use Rattle.std.specs.Option.{option_map_or}
use Rattle.std.specs.Str.{is_utf8}
use Rattle.field_schema.specs.Bytes.{bytes_eq}
use Rattle.script_form.specs.declared.script.Front.{Front}
use Rattle.script_form.specs.declared.script.Line.{Line}
use Rattle.script_form.specs.declared.script.LineName.{LineName}
use Rattle.script_form.specs.declared.script.LineName.TheVariants as name
use Rattle.script_form.specs.declared.script.What.{What}
use Rattle.script_form.specs.declared.script.What.TheVariants as what
use Rattle.script_form.specs.declared.script.ScriptRefusal.{ScriptRefusal}
use Rattle.script_form.specs.declared.script.ScriptRefusal.TheVariants as refusal
use Rattle.script_form.specs.Decimals.{are_digits, decimal_within}
use Rattle.script_form.specs.Results.{result_then}

-- want of memory is no fault of the script
abbrev pub is_no_memory : ScriptRefusal → Bool
is_no_memory (refusal.Fault fault) = false
is_no_memory refusal.NoMemory = true

-- the clients are numbered from 1 to this
abbrev pub most_clients : ℕ
most_clients = 12

-- ---- one line

-- empty, or a comment
abbrev pub is_nothing : List ℕ → Bool
is_nothing line = length line == 0 || slice_index line 0 == 35

abbrev pub is_space : ℕ → Bool
is_space c = c == 32

-- the part before the first space, or the whole line
abbrev pub client_part : List ℕ → List ℕ
client_part line = before_first is_space line

-- the part between the first and the second space
abbrev pub verb_part : List ℕ → List ℕ
verb_part line = before_first is_space (after_first is_space line)

-- what stands behind the second space
abbrev pub body_part : List ℕ → List ℕ
body_part line = after_first is_space (after_first is_space line)

-- a request that needs a body
abbrev pub with_body : (List ℕ → What) → List ℕ → Result What LineName
with_body request body = if length body == 0 then Err name.BadBody else Ok (request body)

-- what a client asks for by a verb and a body
abbrev pub request_of : ℕ → List ℕ → List ℕ → Result What LineName
request_of client verb body =
    if bytes_eq verb (codes "add") then with_body (what.Add client) body else
    (if bytes_eq verb (codes "delete") then with_body (what.Delete client) body else
    (if bytes_eq verb (codes "query") then with_body (what.Query client) body else
    (if bytes_eq verb (codes "commit") then Ok (what.Commit client body) else Err name.BadVerb)))

-- the client that a line begins with, one of so many
abbrev pub client_of : ℕ → List ℕ → Result ℕ LineName
client_of clients part =
    if are_digits part then option_map_or Ok (decimal_within 1 clients part) (Err name.BadClient) else Err name.NoClient

-- what a text asks for, or its first fault
abbrev pub what_in : ℕ → List ℕ → Result What LineName
what_in clients line =
    if is_nothing line then Ok what.Nothing else
    (if bytes_eq line (codes "---") then Ok what.PhaseEnd else
    result_then (client_of clients (client_part line)) (λ client. request_of client (verb_part line) (body_part line)))

-- what a line asks for, or its first fault
unfoldable pub what_of : ℕ → List ℕ → Result What LineName
what_of clients line = if is_utf8 line then what_in clients line else Err name.NotUtf8

-- ---- the fault of a line

-- the line of that number has that fault
abbrev pub line_failed : ℕ → LineName → ScriptRefusal
line_failed number fault = refusal.Fault (record { line = number; name = fault })

-- a fault is told with its line's number
abbrev pub told : {A : Type 0} → ℕ → Result A LineName → Result A ScriptRefusal
told number (Ok x) = Ok x
told number (Err fault) = Err (line_failed number fault)

-- ---- the lines

-- the line of that number in front of what is read behind it; at a fault nothing more is read
abbrev pub in_front : ℕ → Result What LineName → Front → Front
in_front number (Ok asked) later = record { lines = record { number = number; what = asked } ∷ later.lines; fault = later.fault }
in_front number (Err fault) later = record { lines = []; fault = Some (record { line = number; name = fault }) }

-- the lines from that number on, up to the first fault
abbrev pub front_from : ℕ → ℕ → List (List ℕ) → Front
front_from clients number [] = record { lines = []; fault = None }
front_from clients number (line ∷ others) = in_front number (what_of clients line) (front_from clients (number + 1) others)

-- the lines of a script of so many clients before its first fault, and that fault
unfoldable pub front_of : ℕ → List (List ℕ) → Front
front_of clients ls = front_from clients 1 ls

-- all lines, where there is no fault
abbrev pub whole_script : Front → Result (List Line) ScriptRefusal
whole_script front = option_map_or (λ fault. Err (refusal.Fault fault)) front.fault (Ok front.lines)

-- the script of so many clients, or its first fault
abbrev pub script_of : ℕ → List (List ℕ) → Result (List Line) ScriptRefusal
script_of clients ls = whole_script (front_of clients ls)
