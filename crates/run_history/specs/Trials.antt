-- Short histories and rows on which agreeing is tried.
use Rattle.std.specs.Prelude.{◌≡◌, ◌≢◌, ℕ, List, [], ◌∷◌, ◌++◌, map, true, Option, Some, None}
use Rattle.std.specs.List.{AllByRecursion}
use Rattle.doc_model.specs.Document.{Document}
use Rattle.search_model.specs.Live.{Change, added, nothing}
use Rattle.search_model.specs.Reply.{no_memory}
use Rattle.script_form.specs.declared.script.Line.{Line}
use Rattle.registry_machine.specs.declared.entry.Entry.{Entry}
use Rattle.registry_machine.specs.declared.entry.Entry.TheVariants.{Open, Update, Finish, Acquire, Release, Free}
use Rattle.registry_machine.specs.Machine.{Limits}
use Rattle.registry_machine.specs.Legal.{Legal}
use Rattle.run_laws.specs.Rows.{Verb, add, query, commit, RequestRow, SearcherRow, Output}
use Rattle.run_laws.specs.Calls.{Call, calls_of}
use Rattle.run_laws.specs.Lawful.{Lawful}
use Rattle.run_laws.specs.Trials.{one_warming, add_a, find_x, document_a, row, added_at, committed_at, served, first, searcher}
use Rattle.run_history.specs.Tellings.{Reading, Telling, Life}
use Rattle.run_history.specs.Agreement.{IsTelling, TellsOnce, AreSearchers, StandInOrder, AreWarmed, CarryViews, HasReply, IsReleased}

-- ---- the premises one by one

pub data Premise : Type 0 where
  rows : Premise
  once : Premise
  searchers : Premise
  order : Premise
  warmings : Premise
  views : Premise
  replies : Premise
  released : Premise

-- a content is a line and a change, and an opening shows documents
abbrev pub Step : Type 0
Step = Entry (ℕ × Change) (List Document) ℕ

abbrev pub read : Reading (ℕ × Change) (List Document)
read = record { line = λ u. u.0; change = λ u. u.1; docs = λ d. d }

abbrev pub limits : Limits
limits = record { max_warming = 1; slots = 9; first_generation = 1; last_generation = 9 }

-- the rows and the searchers keep one premise
abbrev pub Keeps : List Step → List Telling → List Life → Premise → Type 0
Keeps h ts lives rows = AllByRecursion (IsTelling read one_warming h) ts
Keeps h ts lives once = TellsOnce h ts lives
Keeps h ts lives searchers = AreSearchers h lives
Keeps h ts lives order = StandInOrder ts lives
Keeps h ts lives warmings = AreWarmed one_warming lives
Keeps h ts lives views = CarryViews read h
Keeps h ts lives replies = AllByRecursion (HasReply read one_warming h) ts
Keeps h ts lives released = IsReleased limits h

abbrev pub output : List Telling → List Life → Output
output ts lives = record { requests = map (λ t. t.told.row) ts; searchers = map (λ s. s.row) lives }

-- rows that aren't lawful for the script
abbrev pub IsUnlawful : List Line → List Telling → List Life → Type 0
IsUnlawful script ts lives = Lawful one_warming script (output ts lives) → ⊥

-- a history and rows of a script that break this premise and keep every other
pub record BreaksAlone (script : List Line) (h : List Step) (ts : List Telling) (lives : List Life) (premise : Premise) : Type 0 where
  pub legal : Legal limits h
  pub calls : map (λ t. t.told.call) ts ≡ calls_of script
  pub breaks : Keeps h ts lives premise → ⊥
  pub keeps_others : (other : Premise) → other ≢ premise → Keeps h ts lives other

-- ---- entries and rows

abbrev pub begun : List Step
begun = Open 1 (0, nothing) 1 0 [] ∷ Finish 1 [] ∷ []

abbrev pub adds : ℕ → ℕ → Step
adds client line = Update client (line, added document_a)

abbrev pub opens : ℕ → ℕ → ℕ → List Document → Step
opens line g slot docs = Open 1 (line, nothing) g slot docs

abbrev pub acquires : ℕ → ℕ → Step
acquires g k = Acquire 1 g k

abbrev pub releases : ℕ → Step
releases g = Release 1 g []

abbrev pub registers : ℕ → Step
registers g = Finish g []

abbrev pub call : ℕ → Verb → List ℕ → Call
call line verb body = record { phase = 0; client = 1; line = line; verb = verb; body = body }

abbrev pub tells : ℕ → Verb → List ℕ → RequestRow → Option ℕ → Telling
tells line verb body row index = record { told = record { call = call line verb body; row = row }; index = index }

abbrev pub life : SearcherRow → ℕ → ℕ → Option ℕ → Life
life row opened ended warmed = record { row = row; opened = opened; ended = ended; warmed = warmed }

abbrev pub first_life : ℕ → Life
first_life acquired = life (first acquired) 0 1 None

-- the first searcher alone, which nobody acquired
abbrev pub unused : List Life
unused = first_life 0 ∷ []

-- ---- rows: a row has a place, and tells nothing

abbrev pub placed_idly : List Telling
placed_idly = tells 1 add add_a (row 1 1 add (Some 2) None None no_memory) None ∷ []

-- ---- once: nobody tells the update at place 2

abbrev pub untold : List Step
untold = begun ++ Update 2 (9, nothing) ∷ adds 1 1 ∷ []

abbrev pub told_but_one : List Telling
told_but_one = tells 1 add add_a (added_at 1 1 3) (Some 3) ∷ []

-- ---- searchers: the first one tells a later end

abbrev pub later_end : List Life
later_end = life (searcher 1 0 2 true 0 None) 0 1 None ∷ []

-- ---- order: the client's lines stand the other way round

abbrev pub turned_round : List Step
turned_round = begun ++ adds 1 2 ∷ adds 1 1 ∷ []

abbrev pub told_backwards : List Telling
told_backwards = tells 1 add add_a (added_at 1 1 3) (Some 3) ∷ tells 2 add add_a (added_at 1 2 2) (Some 2) ∷ []

-- ---- warmings: the acquire for generation 3 stands before its opening

abbrev pub warmed_early : List Step
warmed_early = begun ++ opens 1 2 1 [] ∷ acquires 1 0 ∷ releases 1 ∷ acquires 1 1 ∷ releases 1 ∷ registers 2 ∷ opens 2 3 2 [] ∷ registers 3 ∷ []

abbrev pub commits_told : List Telling
commits_told = tells 1 commit [] (committed_at 1 1 2 2) (Some 2) ∷ tells 2 commit [] (committed_at 1 2 4 3) (Some 8) ∷ []

abbrev pub early_lives : List Life
early_lives = first_life 2 ∷ life (searcher 2 2 3 true 0 (Some (1, 0))) 2 7 (Some 3) ∷ life (searcher 3 4 5 true 0 (Some (1, 1))) 8 9 (Some 5) ∷ []

-- ---- views: the second searcher shows nothing

abbrev pub blind : List Step
blind = begun ++ adds 1 1 ∷ opens 2 2 1 [] ∷ acquires 1 0 ∷ releases 1 ∷ registers 2 ∷ acquires 2 0 ∷ releases 2 ∷ []

abbrev pub blindly_served : List Telling
blindly_served = tells 1 add add_a (added_at 1 1 2) (Some 2) ∷ tells 2 commit [] (committed_at 1 2 3 2) (Some 3) ∷ tells 3 query find_x (served 3 2 0 []) (Some 7) ∷ []

abbrev pub two_lives : List Life
two_lives = first_life 1 ∷ life (searcher 2 3 4 true 1 (Some (1, 0))) 3 6 (Some 4) ∷ []

-- ---- replies: an update is told, and answered that there was no memory

abbrev pub one_added : List Step
one_added = begun ++ adds 1 1 ∷ []

abbrev pub told_without_memory : List Telling
told_without_memory = tells 1 add add_a (row 1 1 add (Some 2) None None no_memory) (Some 2) ∷ []

-- ---- released: the query's pin is still there

abbrev pub unreleased : List Step
unreleased = begun ++ acquires 1 0 ∷ []

abbrev pub served_once : List Telling
served_once = tells 1 query find_x (served 1 1 0 []) (Some 2) ∷ []

-- ---- rows that agree: a document is added, committed and found

abbrev pub worked_history : List Step
worked_history =
    begun ++ adds 1 1 ∷ opens 2 2 1 (document_a ∷ []) ∷ acquires 1 0 ∷ releases 1 ∷ registers 2 ∷ Free 1 ∷ acquires 2 0 ∷ releases 2 ∷ []
