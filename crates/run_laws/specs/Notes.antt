-- What the row of a query tells of the caches.
use Rattle.std.specs.Prelude.{◌≡◌, ℕ, ◌≤◌, List, [], map, ◌&&◌, ◌==◌, Option, Some, None, Result, Ok, Err}
use Rattle.std.specs.Bool.{MatchBool}
use Rattle.std.specs.List.{AllByRecursion}
use Rattle.request_form.specs.declared.fault.RequestFault.{RequestFault}
use Rattle.request_form.specs.declared.request.Request.{Request}
use Rattle.request_form.specs.Params.{params_of}
use Rattle.request_form.specs.Requests.{request_of}
use Rattle.script_form.specs.declared.config.Config.{Config}
use Rattle.script_form.specs.declared.script.Line.{Line}
use Rattle.search_model.specs.declared.notes.Note.{Note}
use Rattle.search_model.specs.Noting.{IsNote, AreNotesAfter}
use Rattle.run_laws.specs.Rows.{RequestRow, Output}
use Rattle.run_laws.specs.Calls.{Told, calls_of, tell}
use Rattle.run_laws.specs.CallReadings.{defaults_of}
use Rattle.run_laws.specs.Bounds.{is_query}

-- the notes of a row: of its main query, of each of its filters, and how many of its documents a cache gave
pub record Noted : Type 0 where
  pub result : Option Note
  pub filters : List Note
  pub doc_hits : ℕ

abbrev pub noted : RequestRow → Noted
noted r = record { result = r.result; filters = r.filters; doc_hits = r.doc_hits }

abbrev pub not_noted : Noted
not_noted = record { result = None; filters = []; doc_hits = 0 }

-- those of a request that was answered with so many documents
pub record IsNotedBy (r : Request) (docs : ℕ) (n : Noted) : Type 0 where
  pub note : Note
  pub note_is : n.result ≡ Some note
  pub result : IsNote r.q_cached note
  pub filters : AreNotesAfter note (map (λ f. f.cached) r.filters) n.filters
  pub few_hits : n.doc_hits ≤ docs

-- a query that reads has those of its request
abbrev pub AreNotedBy : Result Request RequestFault → ℕ → Noted → Type 0
AreNotedBy (Ok r) docs n = IsNotedBy r docs n
AreNotedBy (Err fault) docs n = n ≡ not_noted

-- a query that was answered has those of its request, and all else has none
abbrev pub TellsNotes : Config → Told → Type 0
TellsNotes c t =
    MatchBool ((t.row.code == 0) && is_query t.call.verb)
    (AreNotedBy (request_of c.schema.list (defaults_of c) (params_of t.call.body)) t.row.docs (noted t.row))
    (noted t.row ≡ not_noted)

-- Each row tells the notes of its request.
abbrev pub TellNotes : Config → List Line → Output → Type 0
TellNotes c script o = AllByRecursion (TellsNotes c) (tell (calls_of script) o.requests)
