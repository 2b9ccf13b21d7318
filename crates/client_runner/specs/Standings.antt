-- Where a serial run stands.
use Rattle.std.specs.Prelude.{◌≡◌, ℕ, ◌+◌, ◌*◌, ◌<◌, ◌^◌, List, [], ◌∷◌, ◌++◌, length, map, Bool, true, Option, Some, None}
use Rattle.script_form.specs.declared.config.Config.{Config}
use Rattle.doc_model.specs.Document.{Document}
use Rattle.request_form.specs.declared.request.Request.{Request}
use Rattle.search_model.specs.Live.{Change, after}
use Rattle.search_model.specs.Answer.{answer}
use Rattle.field_schema.specs.declared.field.FieldList.TheVariants.{All}
use Rattle.serde_json.specs.Written.{compact_text}
use Rattle.reply_json.specs.Answers.{answer_data}
use Rattle.reply_json.specs.declared.replies.Answer.{Answer}
use Rattle.search_model.specs.Reply.{Outcome, found, refused, reply_text, code_of, found_of, docs_of}
use Rattle.run_laws.specs.Rows.{RequestRow, SearcherRow}
use Rattle.run_laws.specs.Calls.{Call}
use Rattle.run_laws.specs.Notes.{Noted, not_noted}
use Rattle.run_history.specs.Serial.{first_row}
use Rattle.run_laws.specs.CallReadings.{asked_by}
use Rattle.client_runner.specs.declared.rows.RequestRow as rows
use Rattle.client_runner.specs.declared.runner.Head.{Head}
use Rattle.client_runner.specs.declared.runner.Reply.{Reply}
use Rattle.client_runner.specs.declared.runner.Runner.{Runner}
use Rattle.client_runner.specs.Views.{verb_view, request_view, searcher_view}

-- what the updates leave, what the current searcher sees, the next place, the rows so far, and the searchers
pub record Standing : Type 0 where
  pub docs : List Document
  pub served : List Document
  pub place : ℕ
  pub rows : List RequestRow
  pub earlier : List SearcherRow
  pub current : SearcherRow

abbrev pub standing : Runner → Standing
standing r = record {
  docs = r.index.docs;
  served = r.index.served;
  place = r.place;
  rows = map request_view r.rows.items;
  earlier = map searcher_view r.earlier.items;
  current = searcher_view r.current;
}

-- before the first request: the first searcher is registered, and sees nothing; its listeners may have acquired it
abbrev pub first : Bool → Standing
first listened = record {
  docs = [];
  served = [];
  place = 2;
  rows = [];
  earlier = [];
  current = first_row listened;
}

-- ---- what is done

-- a change takes the next place
abbrev pub changed : Change → Standing → Standing
changed change st = record st { docs = after st.docs change; place = st.place + 1 }

-- the current searcher is acquired
abbrev pub acquired : Standing → Standing
acquired st = record st { current = record st.current { acquired = st.current.acquired + 1 } }

-- the searcher that an opening at this place gives, warmed from the current one and registered at the next place
abbrev pub next_searcher : Standing → SearcherRow
next_searcher st = record {
  generation = st.current.generation + 1;
  opened = st.place;
  ended = st.place + 1;
  registered = true;
  acquired = 0;
  from = Some (st.current.generation, st.current.acquired);
}

-- an opening takes two places, and the new searcher sees what the updates leave
abbrev pub opened : Standing → Standing
opened st = record st {
  served = st.docs;
  place = st.place + 2;
  earlier = st.earlier ++ (acquired st).current ∷ [];
  current = next_searcher st;
}

-- the row is told behind the others
abbrev pub told_too : Standing → RequestRow → Standing
told_too st row = record st { rows = st.rows ++ row ∷ [] }

-- the searchers, the current one last
abbrev pub searchers_of : Standing → List SearcherRow
searchers_of st = st.earlier ++ st.current ∷ []

-- ---- rows

-- the request that a head names, with its body
abbrev pub call_of : Head → List ℕ → Call
call_of h body = record { phase = h.phase; client = h.client; line = h.line; verb = verb_view h.verb; body = body }

-- the outcome of a request that is answered on these documents
abbrev pub found_by : List Document → Request → Outcome
found_by docs r = found (asked_by r) (answer docs (asked_by r))

-- the reply shows this outcome
pub record Shown (c : Config) (o : Outcome) (r : Reply) : Type 0 where
  pub text : r.text ≡ reply_text c.schema o
  pub code : r.code ≡ code_of o
  pub found : r.found ≡ found_of o
  pub docs : r.docs ≡ docs_of o

abbrev pub shown_row : Head → Option ℕ → Option ℕ → Option ℕ → Reply → RequestRow
shown_row h place generation ticket r = record {
  client = h.client;
  line = h.line;
  verb = verb_view h.verb;
  place = place;
  generation = generation;
  ticket = ticket;
  reply = r.text;
  code = r.code;
  found = r.found;
  docs = r.docs;
  result = r.result;
  filters = r.filters;
  doc_hits = r.doc_hits;
}

-- what a reply's row will tell of the caches
abbrev pub noted_in : Reply → Noted
noted_in r = record { result = r.result; filters = r.filters; doc_hits = r.doc_hits }

-- the text of a reply without documents
abbrev pub bare_text : Config → Answer → List ℕ
bare_text c a = compact_text (answer_data c.schema All a)

-- a reply of this text and code, without documents, which tells nothing of the caches
pub record IsBare (text : List ℕ) (code : ℕ) (r : Reply) : Type 0 where
  pub text_is : r.text ≡ text
  pub code_is : r.code ≡ code
  pub found : r.found ≡ 0
  pub docs : r.docs ≡ 0
  pub notes : noted_in r ≡ not_noted

-- the row of a request that was refused with a message
pub record IsRefusal (c : Config) (h : Head) (message : List ℕ) (row : rows.RequestRow) : Type 0 where
  pub reply : Reply
  pub row_is : request_view row ≡ shown_row h None None None reply
  pub shown : Shown c (refused message) reply
  pub notes : noted_in reply ≡ not_noted
