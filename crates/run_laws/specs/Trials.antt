-- Small scripts, and outputs of them on which the laws are tried.
use Rattle.std.specs.Prelude.{◌≢◌, ℕ, List, [], ◌∷◌, ◌++◌, Bool, true, false, Option, Some, None, codes}
use Rattle.std.specs.List.{AllByRecursion}
use Rattle.field_schema.specs.Schema.{Fields, string_field}
use Rattle.field_schema.specs.declared.field.FieldList.TheVariants as fields
use Rattle.field_schema.specs.declared.key.Key.TheVariants as key
use Rattle.doc_model.specs.Document.{Document}
use Rattle.query_tree.specs.declared.query.Query.{Term}
use Rattle.search_model.specs.Answer.{Asked, answer}
use Rattle.search_model.specs.Reply.{Outcome, found, accepted, too_many, no_memory, reply_text, code_of, found_of, docs_of}
use Rattle.script_form.specs.ReadConfig.{no_warming}
use Rattle.script_form.specs.declared.config.Config.{Config}
use Rattle.script_form.specs.declared.script.Line.{Line}
use Rattle.script_form.specs.declared.script.What.{What}
use Rattle.script_form.specs.declared.script.What.TheVariants as what
use Rattle.run_laws.specs.Rows.{Verb, add, query, commit, RequestRow, SearcherRow, Output}
use Rattle.run_laws.specs.Calls.{Told, calls_of, tell, Each}
use Rattle.run_laws.specs.Acquires.{KeepsTicketOrder}
use Rattle.run_laws.specs.Lawful.{AnswersEach, IsOneHistory, KeepsOrder, IsAnswered, ServesUnlessOlder, CountsTickets, TellsWarmings}

-- ---- the laws one by one

pub data Law : Type 0 where
  one_row_each : Law
  one_history : Law
  orders : Law
  answers : Law
  greatest_serves : Law
  tickets : Law
  ticket_order : Law
  warmings : Law

-- the requests of a script with the rows of an output
abbrev pub told_of : List Line → Output → List Told
told_of script o = tell (calls_of script) o.requests

-- the output keeps one law
abbrev pub Keeps : Config → List Line → Output → Law → Type 0
Keeps c script o one_row_each = AnswersEach c script o
Keeps c script o one_history = IsOneHistory (told_of script o) o
Keeps c script o orders = Each (KeepsOrder o) [] (told_of script o)
Keeps c script o answers = Each (IsAnswered c (told_of script o) o) [] (told_of script o)
Keeps c script o greatest_serves = AllByRecursion (ServesUnlessOlder o) o.searchers
Keeps c script o tickets = AllByRecursion (CountsTickets (told_of script o) o) o.searchers
Keeps c script o ticket_order = KeepsTicketOrder o (told_of script o)
Keeps c script o warmings = TellsWarmings c o o.searchers

-- it breaks this law and keeps every other
pub record BreaksAlone (c : Config) (script : List Line) (o : Output) (law : Law) : Type 0 where
  pub breaks : Keeps c script o law → ⊥
  pub keeps_others : (other : Law) → other ≢ law → Keeps c script o other

-- ---- the configuration and the scripts

-- two fields of whole texts, of which the first is the unique key
abbrev pub two_fields : Fields
two_fields = record { list = string_field (codes "id") ∷ string_field (codes "cat") ∷ []; key = 0 }

-- at most one searcher is warming
abbrev pub one_warming : Config
one_warming = record {
  schema = two_fields;
  filter_size = 512;
  filter_warm = no_warming;
  result_size = 512;
  result_warm = no_warming;
  document_size = 512;
  window = 20;
  most_docs = 200;
  max_warming = 1;
  cold = false;
  most_clauses = 1024;
  warmers = 1;
  df = None;
  first = [];
  fresh = [];
}

-- at most two searchers are warming
abbrev pub two_warming : Config
two_warming = record one_warming { max_warming = 2 }

abbrev pub add_a : List ℕ
add_a = codes "{\"id\":\"a\",\"cat\":\"x\"}"

abbrev pub find_x : List ℕ
find_x = codes "q=cat:x"

-- what the body of the add reads to
abbrev pub document_a : Document
document_a = record { values = (key.Str (codes "a") ∷ []) ∷ (key.Str (codes "x") ∷ []) ∷ []; id = codes "a" }

-- what the body of the query asks for
abbrev pub asked_x : Asked
asked_x = record { query = Term 1 (key.Str (codes "x")); filters = []; sort = []; start = 0; rows = 10; fields = fields.All }

abbrev pub line : ℕ → What → Line
line number request = record { number = number; what = request }

-- one client adds, commits and queries
abbrev pub add_commit_query : List Line
add_commit_query = line 1 (what.Add 1 add_a) ∷ line 2 (what.Commit 1 []) ∷ line 3 (what.Query 1 find_x) ∷ []

abbrev pub one_add : List Line
one_add = line 1 (what.Add 1 add_a) ∷ []

-- one client adds twice
abbrev pub two_adds : List Line
two_adds = line 1 (what.Add 1 add_a) ∷ line 2 (what.Add 1 add_a) ∷ []

-- two clients add once each
abbrev pub adds_of_two : List Line
adds_of_two = line 1 (what.Add 1 add_a) ∷ line 2 (what.Add 2 add_a) ∷ []

-- two clients add once each, in two phases
abbrev pub adds_in_phases : List Line
adds_in_phases = line 1 (what.Add 1 add_a) ∷ line 2 what.PhaseEnd ∷ line 3 (what.Add 2 add_a) ∷ []

-- an add of a body that is no document
abbrev pub bad_add : List Line
bad_add = line 1 (what.Add 1 []) ∷ []

abbrev pub one_commit : List Line
one_commit = line 1 (what.Commit 1 []) ∷ []

-- one client commits, and then adds
abbrev pub commit_then_add : List Line
commit_then_add = line 1 (what.Commit 1 []) ∷ line 2 (what.Add 1 add_a) ∷ []

-- a client commits, and another adds in the next phase
abbrev pub commit_then_phase : List Line
commit_then_phase = line 1 (what.Commit 1 []) ∷ line 2 what.PhaseEnd ∷ line 3 (what.Add 2 add_a) ∷ []

-- two clients commit once each
abbrev pub two_commits : List Line
two_commits = line 1 (what.Commit 1 []) ∷ line 2 (what.Commit 2 []) ∷ []

-- one client queries twice
abbrev pub two_queries : List Line
two_queries = line 1 (what.Query 1 find_x) ∷ line 2 (what.Query 1 find_x) ∷ []

-- a client queries twice, and another commits
abbrev pub queries_and_commit : List Line
queries_and_commit = line 1 (what.Query 1 find_x) ∷ line 2 (what.Query 1 find_x) ∷ line 3 (what.Commit 2 []) ∷ []

abbrev pub one_query : List Line
one_query = line 1 (what.Query 1 find_x) ∷ []

-- one client queries, and then commits
abbrev pub query_then_commit : List Line
query_then_commit = line 1 (what.Query 1 find_x) ∷ line 2 (what.Commit 1 []) ∷ []

-- one client commits twice
abbrev pub commits_in_turn : List Line
commits_in_turn = line 1 (what.Commit 1 []) ∷ line 2 (what.Commit 1 []) ∷ []

-- ---- rows

-- a row whose reply and numbers are those of an outcome
abbrev pub row : ℕ → ℕ → Verb → Option ℕ → Option ℕ → Option ℕ → Outcome → RequestRow
row client number verb place generation ticket o = record {
  client = client;
  line = number;
  verb = verb;
  place = place;
  generation = generation;
  ticket = ticket;
  reply = reply_text two_fields o;
  code = code_of o;
  found = found_of o;
  docs = docs_of o;
  result = None;
  filters = [];
  doc_hits = 0;
}

abbrev pub added_at : ℕ → ℕ → ℕ → RequestRow
added_at client number place = row client number add (Some place) None None accepted

abbrev pub committed_at : ℕ → ℕ → ℕ → ℕ → RequestRow
committed_at client number place generation = row client number commit (Some place) (Some generation) None accepted

-- client 1's query, served from a view
abbrev pub served : ℕ → ℕ → ℕ → List Document → RequestRow
served number generation ticket view = row 1 number query None (Some generation) (Some ticket) (found asked_x (answer view asked_x))

-- the first searcher, acquired so often
abbrev pub first : ℕ → SearcherRow
first acquired = record { generation = 1; opened = 0; ended = 1; registered = true; acquired = acquired; from = None }

-- a searcher's generation, the places of its opening and its end, whether it was registered, how often it was acquired, and whence it was warmed
abbrev pub searcher : ℕ → ℕ → ℕ → Bool → ℕ → Option (ℕ × ℕ) → SearcherRow
searcher generation opened ended registered acquired from = record {
  generation = generation;
  opened = opened;
  ended = ended;
  registered = registered;
  acquired = acquired;
  from = from;
}

-- ---- the worked output

-- A document is added, committed and found. How often the two searchers were acquired, whence the second was warmed, and the query's ticket are open.
abbrev pub found_once : ℕ → ℕ → Option (ℕ × ℕ) → ℕ → Output
found_once acquired acquired_then from ticket = record {
  requests = added_at 1 1 2 ∷ committed_at 1 2 3 2 ∷ served 3 2 ticket (document_a ∷ []) ∷ [];
  searchers = first acquired ∷ searcher 2 3 4 true acquired_then from ∷ [];
}

-- the second searcher is warmed from the first, and serves the query
abbrev pub worked : Output
worked = found_once 1 1 (Some (1, 0)) 0

-- the text of the worked output
abbrev pub worked_text : List ℕ
worked_text =
    codes "{\"client\":1,\"line\":1,\"place\":2,\"reply\":{\"responseHeader\":{\"status\":0}}}\n" ++
    (codes "{\"client\":1,\"generation\":2,\"line\":2,\"place\":3,\"reply\":{\"responseHeader\":{\"status\":0}}}\n" ++
    (codes "{\"client\":1,\"generation\":2,\"line\":3,\"reply\":{\"response\":{\"docs\":[{\"cat\":\"x\",\"id\":\"a\"}],\"numFound\":1,\"numFoundExact\":true,\"start\":0}," ++
    (codes "\"responseHeader\":{\"status\":0}},\"ticket\":0}\n" ++
    (codes "{\"acquired\":1,\"finished\":1,\"generation\":1,\"opened\":0}\n" ++
    codes "{\"acquired\":1,\"finished\":4,\"from\":1,\"fromTicket\":0,\"generation\":2,\"opened\":3}\n"))))

-- ---- other lawful outputs

-- nothing was asked for
abbrev pub nothing_asked : Output
nothing_asked = record { requests = []; searchers = first 0 ∷ [] }

-- the later searcher ends first, and the earlier one is superseded
abbrev pub overtaken : Output
overtaken = record {
  requests = committed_at 1 1 2 2 ∷ committed_at 2 2 3 3 ∷ [];
  searchers = first 2 ∷ searcher 2 2 5 false 0 (Some (1, 0)) ∷ searcher 3 3 4 true 0 (Some (1, 1)) ∷ [];
}

-- its text
abbrev pub overtaken_text : List ℕ
overtaken_text =
    codes "{\"client\":1,\"generation\":2,\"line\":1,\"place\":2,\"reply\":{\"responseHeader\":{\"status\":0}}}\n" ++
    (codes "{\"client\":2,\"generation\":3,\"line\":2,\"place\":3,\"reply\":{\"responseHeader\":{\"status\":0}}}\n" ++
    (codes "{\"acquired\":2,\"finished\":1,\"generation\":1,\"opened\":0}\n" ++
    (codes "{\"acquired\":0,\"from\":1,\"fromTicket\":0,\"generation\":2,\"opened\":2,\"superseded\":5}\n" ++
    codes "{\"acquired\":0,\"finished\":4,\"from\":1,\"fromTicket\":1,\"generation\":3,\"opened\":3}\n")))

-- the second commit comes while one searcher is warming, and is told which
abbrev pub warming_told : Output
warming_told = record {
  requests = committed_at 1 1 2 2 ∷ row 2 2 commit (Some 3) None None (too_many (2 ∷ [])) ∷ [];
  searchers = first 1 ∷ searcher 2 2 4 true 0 (Some (1, 0)) ∷ [];
}

-- there was no memory for the add
abbrev pub add_without_memory : Output
add_without_memory = record { requests = row 1 1 add None None None no_memory ∷ []; searchers = first 0 ∷ [] }

-- there was no memory for the reply of a query that had acquired the first searcher
abbrev pub query_without_memory : Output
query_without_memory = record { requests = row 1 1 query None (Some 1) (Some 0) no_memory ∷ []; searchers = first 1 ∷ [] }

-- ---- outputs that break one law

-- the query has no row
abbrev pub row_is_missing : Output
row_is_missing = record {
  requests = added_at 1 1 2 ∷ committed_at 1 2 3 2 ∷ [];
  searchers = first 1 ∷ searcher 2 3 4 true 0 (Some (1, 0)) ∷ [];
}

-- there is no searcher of generation 2, and one of generation 3
abbrev pub generation_is_skipped : Output
generation_is_skipped = record {
  requests = committed_at 1 1 2 3 ∷ [];
  searchers = first 1 ∷ searcher 3 2 3 true 0 (Some (1, 0)) ∷ [];
}

-- two adds have place 2
abbrev pub place_is_shared : Output
place_is_shared = record { requests = added_at 1 1 2 ∷ added_at 2 2 2 ∷ []; searchers = first 0 ∷ [] }

-- the first searcher was opened behind its own end
abbrev pub first_ends_first : Output
first_ends_first = record { requests = []; searchers = searcher 1 1 0 true 0 None ∷ [] }

-- no commit opened the second searcher: the place is an add's
abbrev pub opened_by_nobody : Output
opened_by_nobody = record { requests = added_at 1 1 2 ∷ []; searchers = first 1 ∷ searcher 2 2 3 true 0 (Some (1, 0)) ∷ [] }

-- generation 3 was opened before generation 2
abbrev pub openings_descend : Output
openings_descend = record {
  requests = committed_at 1 1 3 2 ∷ committed_at 2 2 2 3 ∷ [];
  searchers = first 2 ∷ searcher 2 3 5 false 0 (Some (1, 0)) ∷ searcher 3 2 4 true 0 (Some (1, 1)) ∷ [];
}

-- the client's second add has the lower place
abbrev pub places_are_swapped : Output
places_are_swapped = record { requests = added_at 1 1 3 ∷ added_at 1 2 2 ∷ []; searchers = first 0 ∷ [] }

-- the later phase's add has the lower place
abbrev pub phases_are_swapped : Output
phases_are_swapped = record { requests = added_at 1 1 3 ∷ added_at 2 3 2 ∷ []; searchers = first 0 ∷ [] }

-- the client's add comes before the end of the searcher for which the client has waited
abbrev pub client_did_not_wait : Output
client_did_not_wait = record {
  requests = committed_at 1 1 2 2 ∷ added_at 1 2 3 ∷ [];
  searchers = first 1 ∷ searcher 2 2 4 true 0 (Some (1, 0)) ∷ [];
}

-- the next phase's add comes before the end of the searcher that was opened in the phase before
abbrev pub phase_did_not_wait : Output
phase_did_not_wait = record {
  requests = committed_at 1 1 2 2 ∷ added_at 2 3 3 ∷ [];
  searchers = first 1 ∷ searcher 2 2 4 true 0 (Some (1, 0)) ∷ [];
}

-- an accepted add has no place
abbrev pub add_has_no_place : Output
add_has_no_place = record { requests = row 1 1 add None None None accepted ∷ added_at 1 2 2 ∷ []; searchers = first 0 ∷ [] }

-- an add is accepted though its body is no document
abbrev pub bad_add_is_accepted : Output
bad_add_is_accepted = record { requests = added_at 1 1 2 ∷ []; searchers = first 0 ∷ [] }

-- an add has a place though there was no memory for it
abbrev pub placed_without_memory : Output
placed_without_memory = record { requests = row 1 1 add (Some 2) None None no_memory ∷ []; searchers = first 0 ∷ [] }

-- a searcher is superseded though none greater is current
abbrev pub superseded_by_none : Output
superseded_by_none = record {
  requests = committed_at 1 1 2 2 ∷ [];
  searchers = first 1 ∷ searcher 2 2 3 false 0 (Some (1, 0)) ∷ [];
}

-- a searcher is registered though a greater one is current
abbrev pub registered_too_late : Output
registered_too_late = record {
  requests = committed_at 1 1 2 2 ∷ committed_at 2 2 3 3 ∷ [];
  searchers = first 2 ∷ searcher 2 2 5 true 0 (Some (1, 0)) ∷ searcher 3 3 4 true 0 (Some (1, 1)) ∷ [];
}

-- a commit is refused for too many warming searchers though none is warming
abbrev pub refused_without_cause : Output
refused_without_cause = record { requests = row 1 1 commit (Some 2) None None (too_many []) ∷ []; searchers = first 0 ∷ [] }

-- a commit tells a generation that has no searcher
abbrev pub opened_nothing : Output
opened_nothing = record { requests = committed_at 1 1 2 2 ∷ []; searchers = first 0 ∷ [] }

-- a commit is refused, and told another searcher than the one that is warming
abbrev pub another_warming_told : Output
another_warming_told = record {
  requests = committed_at 1 1 2 2 ∷ row 2 2 commit (Some 3) None None (too_many (1 ∷ [])) ∷ [];
  searchers = first 1 ∷ searcher 2 2 4 true 0 (Some (1, 0)) ∷ [];
}

-- two searchers are warming where only one may be
abbrev pub warms_too_many : Output
warms_too_many = record {
  requests = committed_at 1 1 2 2 ∷ committed_at 2 2 3 3 ∷ [];
  searchers = first 2 ∷ searcher 2 2 4 true 0 (Some (1, 0)) ∷ searcher 3 3 5 true 0 (Some (1, 1)) ∷ [];
}

-- a query tells a generation that has no searcher
abbrev pub served_from_none : Output
served_from_none = record { requests = served 1 2 0 [] ∷ []; searchers = first 0 ∷ [] }

-- a query tells the second generation and the reply of the first
abbrev pub reply_of_another_view : Output
reply_of_another_view = record {
  requests = added_at 1 1 2 ∷ committed_at 1 2 3 2 ∷ served 3 2 0 [] ∷ [];
  searchers = first 1 ∷ searcher 2 3 4 true 1 (Some (1, 0)) ∷ [];
}

-- a document that nobody added
abbrev pub document_b : Document
document_b = record { values = (key.Str (codes "b") ∷ []) ∷ (key.Str (codes "x") ∷ []) ∷ []; id = codes "b" }

-- the reply has as many documents as it must, but another one
abbrev pub another_document : Output
another_document = record {
  requests = added_at 1 1 2 ∷ committed_at 1 2 3 2 ∷ row 1 3 query None (Some 2) (Some 0) (found asked_x (record { found = 1; docs = document_b ∷ [] })) ∷ [];
  searchers = first 1 ∷ searcher 2 3 4 true 1 (Some (1, 0)) ∷ [];
}

-- a query is served from the generation before that for which its client has waited
abbrev pub served_from_before : Output
served_from_before = record {
  requests = added_at 1 1 2 ∷ committed_at 1 2 3 2 ∷ served 3 1 1 [] ∷ [];
  searchers = first 2 ∷ searcher 2 3 4 true 0 (Some (1, 0)) ∷ [];
}

-- a query is served from the generation before that of the client's last query
abbrev pub served_backwards : Output
served_backwards = record {
  requests = served 1 2 0 [] ∷ served 2 1 1 [] ∷ committed_at 2 3 2 2 ∷ [];
  searchers = first 2 ∷ searcher 2 2 3 true 1 (Some (1, 0)) ∷ [];
}

-- a query is served from the searcher that its client's later commit opens
abbrev pub served_from_after : Output
served_from_after = record {
  requests = served 1 2 0 [] ∷ committed_at 1 2 2 2 ∷ [];
  searchers = first 1 ∷ searcher 2 2 3 true 1 (Some (1, 0)) ∷ [];
}

-- the client's second query has the lower ticket
abbrev pub tickets_descend : Output
tickets_descend = record { requests = served 1 1 1 [] ∷ served 2 1 0 [] ∷ []; searchers = first 2 ∷ [] }

-- the first ticket is 1
abbrev pub ticket_is_skipped : Output
ticket_is_skipped = found_once 1 1 (Some (1, 0)) 1

-- a query has a ticket though its searcher was never acquired
abbrev pub ticket_past_acquired : Output
ticket_past_acquired = record { requests = served 1 1 0 [] ∷ []; searchers = first 0 ∷ [] }

-- the second searcher was warmed from none
abbrev pub warmed_from_none : Output
warmed_from_none = found_once 0 1 None 0

-- the second searcher was warmed from itself
abbrev pub warmed_from_itself : Output
warmed_from_itself = found_once 0 2 (Some (2, 0)) 1

-- the third searcher was warmed from the first, which was current only before the third was opened
abbrev pub warmed_from_before : Output
warmed_from_before = record {
  requests = committed_at 1 1 2 2 ∷ committed_at 1 2 4 3 ∷ [];
  searchers = first 2 ∷ searcher 2 2 3 true 0 (Some (1, 0)) ∷ searcher 3 4 5 true 0 (Some (1, 1)) ∷ [];
}

-- ---- tickets that come from no history

-- two clients query once each, in two phases
abbrev pub queries_in_phases : List Line
queries_in_phases = line 1 (what.Query 1 find_x) ∷ line 2 what.PhaseEnd ∷ line 3 (what.Query 2 find_x) ∷ []

-- one client adds and queries, another queries and adds
abbrev pub crossing : List Line
crossing = line 1 (what.Add 1 add_a) ∷ line 2 (what.Query 1 find_x) ∷ line 3 (what.Query 2 find_x) ∷ line 4 (what.Add 2 add_a) ∷ []

-- a client's query of the first searcher, which sees nothing
abbrev pub served_first : ℕ → ℕ → ℕ → RequestRow
served_first client number ticket = row client number query None (Some 1) (Some ticket) (found asked_x (answer [] asked_x))

-- the later phase's query has the lower ticket
abbrev pub phases_descend : Output
phases_descend = record { requests = served_first 1 1 1 ∷ served_first 2 3 0 ∷ []; searchers = first 2 ∷ [] }

-- client 1 queries behind its add at place 3, and client 2 before its add at place 2, but with the greater ticket
abbrev pub tickets_cross : Output
tickets_cross = record {
  requests = added_at 1 1 3 ∷ served_first 1 2 0 ∷ served_first 2 3 1 ∷ added_at 2 4 2 ∷ [];
  searchers = first 2 ∷ [];
}

-- a query before an opening has the greater ticket than the warming behind it
abbrev pub warming_crosses : Output
warming_crosses = record {
  requests = served_first 1 1 1 ∷ committed_at 1 2 2 2 ∷ [];
  searchers = first 2 ∷ searcher 2 2 3 true 0 (Some (1, 0)) ∷ [];
}
