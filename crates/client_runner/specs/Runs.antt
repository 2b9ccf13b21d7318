-- When a serial run goes by a legal history.
use Rattle.std.specs.Prelude.{◌≡◌, ℕ, ◌+◌, ◌%◌, ◌<◌, List, [], ◌∷◌, ◌++◌, map, Option, Some, None}
use Rattle.std.specs.List.{AllByRecursion}
use Rattle.script_form.specs.declared.config.Config.{Config}
use Rattle.script_form.specs.declared.script.Line.{Line}
use Rattle.run_laws.specs.Rows as plain
use Rattle.run_laws.specs.Calls.{Call, call_as}
use Rattle.run_laws.specs.Lawful.{call_here, told_here}
use Rattle.run_laws.specs.Notes.{TellsNotes}
use Rattle.run_history.specs.Tellings.{Telling, Life}
use Rattle.run_history.specs.Serial.{Stand, Serves, ComesLast}
use Rattle.client_runner.specs.Histories.{Event, reading, limits}
use Rattle.client_runner.specs.declared.rows.RequestRow.{RequestRow}
use Rattle.client_runner.specs.Standings.{Standing, searchers_of, told_too}
use Rattle.client_runner.specs.Views.{request_view}

-- what the run keeps of the history
abbrev pub stand : Standing → Stand
stand st = record {
  generation = st.current.generation;
  acquired = st.current.acquired;
  slot = st.current.generation % 2;
  places = st.place;
  view = st.served;
  docs = st.docs;
}

-- the row has its request's client, line and verb
abbrev pub IsOfItsCall : Telling → Type 0
IsOfItsCall t = told_here t.told.row ≡ call_here t.told.call

-- and tells the notes of its request
abbrev pub TellsItsNotes : Config → Telling → Type 0
TellsItsNotes c t = TellsNotes c t.told

-- The history is legal, and the rows and searchers so far agree with it.
pub record Runs (c : Config) (h : List Event) (ts : List Telling) (lives : List Life) (st : Standing) : Type 0 where
  pub serves : Serves reading (limits c) c h ts lives (stand st)
  pub rows : map (λ t. t.told.row) ts ≡ st.rows
  pub here : AllByRecursion IsOfItsCall ts
  pub notes : AllByRecursion (TellsItsNotes c) ts
  pub searchers : map (λ s. s.row) lives ≡ searchers_of st
  pub earlier : AllByRecursion (λ s. s.generation < st.current.generation) st.earlier

-- what a request adds: the history goes on, and one more row tells the request
pub record Goes (c : Config) (h : List Event) (ts : List Telling) (call : Call) (st : Standing) : Type 0 where
  pub more : List Event
  pub row : plain.RequestRow
  pub index : Option ℕ
  pub lives : List Life
  pub runs : Runs c (h ++ more) (ts ++ record { told = record { call = call; row = row }; index = index } ∷ []) lives st

-- The request was served next: whatever the history was so far, it goes on.
abbrev pub Follows : Config → Call → Standing → Standing → Type 0
Follows c call old new = (h : List Event) (ts : List Telling) (lives : List Life) → Runs c h ts lives old → ComesLast call ts → Goes c h ts call new

-- the same of the request of a line, if it asks for something
abbrev pub FollowsIf : Config → Option Call → Standing → Standing → Type 0
FollowsIf c None old new = new ≡ old
FollowsIf c (Some call) old new = Follows c call old new

-- the line was taken in its turn, in this phase
abbrev pub TakesLine : Config → ℕ → Line → Standing → Standing → Type 0
TakesLine c phase line old new = FollowsIf c (call_as phase line.number line.what) old new

-- The request was served next, and this row tells it.
abbrev pub AnswersBy : Config → Call → Standing → Standing → RequestRow → Type 0
AnswersBy c call old new row = Follows c call old (told_too new (request_view row))
