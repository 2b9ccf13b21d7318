-- The history by which a run goes.
use Rattle.std.specs.Prelude.{ℕ, ◌-◌, ◌^◌, List}
use Rattle.doc_model.specs.Document.{Document}
use Rattle.search_model.specs.Live.{Change}
use Rattle.script_form.specs.declared.config.Config.{Config}
use Rattle.script_form.specs.declared.script.Line.{Line}
use Rattle.registry_machine.specs.declared.entry.Entry.{Entry}
use Rattle.registry_machine.specs.Machine.{Limits}
use Rattle.registry_machine.specs.Legal.{Legal}
use Rattle.run_laws.specs.Rows.{Output}
use Rattle.run_history.specs.Tellings.{Reading}
use Rattle.run_history.specs.Agreement.{OutputAgrees}

-- the entries of the registry: a content is a line and a change, an opening shows its documents, and nothing is listed at a door
abbrev pub Event : Type 0
Event = Entry (ℕ × Change) (List Document) ℕ

abbrev pub reading : Reading (ℕ × Change) (List Document)
reading = record { line = λ u. u.0; change = λ u. u.1; docs = λ docs. docs }

-- a serial run has one slot for the current searcher and one for the next
abbrev pub limits : Config → Limits
limits c = record { max_warming = c.max_warming; slots = 2; first_generation = 1; last_generation = 2 ^ 27 - 1 }

-- there is one legal history of the registry with which the rows agree
abbrev pub GoesByHistory : Config → List Line → Output → Type 0
GoesByHistory c script o = (h : List Event) × Legal (limits c) h × OutputAgrees reading (limits c) c script h o
