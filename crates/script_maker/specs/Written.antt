-- How a script is written: what its lines ask for, as a text.
use Rattle.std.specs.Prelude.{ℕ, ◌+◌, ◌<◌, ◌&&◌, List, [], ◌∷◌, ◌++◌, length, Bool, nat_le, nat_lt, codes, decimal, IsTrue, ⊤}
use Rattle.std.specs.List.{flat_map, list_all}
use Rattle.script_form.specs.Ranges.{IsWithin}
use Rattle.script_form.specs.ReadScript.{most_clients}
use Rattle.script_form.specs.declared.script.Line.{Line}
use Rattle.script_form.specs.declared.script.What.{What}
use Rattle.script_form.specs.declared.script.What.TheVariants as what

-- a client's number, its verb and a body
abbrev pub request_line : ℕ → List ℕ → List ℕ → List ℕ
request_line client verb body = decimal client ++ 32 ∷ (verb ++ 32 ∷ body)

-- the body of a commit and the space before it, where there is one
abbrev pub commit_parameters : List ℕ → List ℕ
commit_parameters [] = []
commit_parameters (c ∷ cs) = 32 ∷ c ∷ cs

-- the line that asks for it
abbrev pub written : What → List ℕ
written (what.Add client body) = request_line client (codes "add") body
written (what.Delete client body) = request_line client (codes "delete") body
written (what.Query client body) = request_line client (codes "query") body
written (what.Commit client body) = decimal client ++ 32 ∷ (codes "commit" ++ commit_parameters body)
written what.PhaseEnd = codes "---"
written what.Nothing = []

-- the text of a script that asks for these: each line and a line feed
abbrev pub script_text : List What → List ℕ
script_text asked = flat_map (λ w. written w ++ 10 ∷ []) asked

-- the lines that ask for these in turn, numbered from n
abbrev pub numbered : ℕ → List What → List Line
numbered n [] = []
numbered n (w ∷ ws) = record { number = n; what = w } ∷ numbered (n + 1) ws

-- ---- what is read back

-- printable ASCII
abbrev pub is_printable : ℕ → Bool
is_printable c = nat_le 32 c && nat_lt c 127

abbrev pub is_plain : List ℕ → Bool
is_plain text = list_all is_printable text

-- one of the clients that there are
abbrev pub IsClient : ℕ → Type 0
IsClient client = IsWithin 1 most_clients client

-- a body that isn't empty
abbrev pub IsBody : List ℕ → Type 0
IsBody body = (0 < length body) × IsTrue (is_plain body)

-- a request of a client that there is, with a body in printable ASCII; or what is no request
abbrev pub IsPlainLine : What → Type 0
IsPlainLine (what.Add client body) = IsClient client × IsBody body
IsPlainLine (what.Delete client body) = IsClient client × IsBody body
IsPlainLine (what.Query client body) = IsClient client × IsBody body
IsPlainLine (what.Commit client body) = IsClient client × IsTrue (is_plain body)
IsPlainLine what.PhaseEnd = ⊤
IsPlainLine what.Nothing = ⊤
