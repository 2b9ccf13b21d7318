-- What a request's row makes the run do.
use Rattle.std.proofs.Common.{◌≡◌, ℕ, ◌+◌, ◌^◌, ◌<◌, ◌≤◌, List, [], ◌∷◌, ◌++◌, length, map, Bool, true, false, not, filter, cond, Option, Some, None, Result, Ok, Err, IfOk, OnOk, refl, sym, ap, ap₂, subst, ◌∙◌, inl, inr, arith, length-append, codes}
use Rattle.std.specs.Prelude.{◌==◌, ◌&&◌}
use Rattle.std.specs.Bool.{MatchBool}
use Rattle.std.specs.Option.{option_map_or}
use Rattle.std.specs.Result.{result_map_both}
use Rattle.std.proofs.lemmas.List.{map-append}
use Rattle.doc_model.specs.Document.{Document}
use Rattle.doc_model.specs.ReadDoc.{doc_of}
use Rattle.search_model.specs.Live.{Change, added, after, has_id}
use Rattle.search_model.specs.Answer.{Asked, answer}
use Rattle.search_model.specs.Messages.{doc_message}
use Rattle.search_model.specs.Reply.{Outcome, accepted, found, refused, no_memory}
use Rattle.request_form.specs.Deletes.{delete_of}
use Rattle.request_form.specs.Messages.{request_message}
use Rattle.request_form.specs.Params.{params_of}
use Rattle.script_form.specs.declared.config.Config.{Config}
use Rattle.run_laws.specs.Rows.{RequestRow}
use Rattle.run_laws.specs.Calls.{Call}
use Rattle.run_laws.specs.CallReadings.{change_by, commit_of, defaults_of, query_of}
use Rattle.run_laws.specs.Lawful.{Shows}
use Rattle.run_laws.specs.Bounds.{is_query}
use Rattle.run_laws.specs.Notes.{AreNotedBy, IsNotedBy, TellsNotes, noted, not_noted}
use Rattle.request_form.specs.Requests.{request_of}
use Rattle.request_form.specs.declared.fault.RequestFault.{RequestFault}
use Rattle.request_form.specs.declared.request.Request.{Request}
use Rattle.run_history.specs.Tellings.{Wanted, an_update, a_searcher, an_answer, form_wants, wants}
use Rattle.run_history.specs.Agreement.{RepliesIdly}
use Rattle.client_runner.specs.declared.rows.Verb.TheVariants as Verb
use Rattle.client_runner.specs.declared.runner.Head.{Head}
use Rattle.client_runner.specs.declared.runner.Reply.{Reply}
use Rattle.field_schema.specs.declared.memory.NoMemory.{NoMemory}
use Rattle.client_runner.specs.Runs.{AnswersBy, Follows}
use Rattle.client_runner.specs.declared.rows.RequestRow as rows
use Rattle.client_runner.specs.Standings.{Standing, IsRefusal, Shown, acquired, call_of, changed, noted_in, opened, shown_row, told_too}
use Rattle.client_runner.specs.Views.{verb_view, request_view}
use Rattle.client_runner.proofs.Follows.{idle_follows, update_follows, query_follows, opening_follows}

-- ---- what a request of each verb wants

pub wants_add : (c : Config) (h : Head) (body : List ℕ) → h.verb ≡ Verb.Add → wants c (call_of h body) ≡ result_map_both an_update (λ m. m) (result_map_both added doc_message (doc_of c.schema body))
wants_add c h body e = ap (λ v. wants c (record { phase = h.phase; client = h.client; line = h.line; verb = verb_view v; body = body })) e

pub wants_delete : (c : Config) (h : Head) (body : List ℕ) → h.verb ≡ Verb.Delete
    → wants c (call_of h body) ≡ result_map_both an_update (λ m. m) (result_map_both change_by request_message (delete_of c.schema.list (defaults_of c) (params_of body)))
wants_delete c h body e = ap (λ v. wants c (record { phase = h.phase; client = h.client; line = h.line; verb = verb_view v; body = body })) e

pub wants_query : (c : Config) (h : Head) (body : List ℕ) → h.verb ≡ Verb.Query → wants c (call_of h body) ≡ result_map_both an_answer (λ m. m) (query_of c body)
wants_query c h body e = ap (λ v. wants c (record { phase = h.phase; client = h.client; line = h.line; verb = verb_view v; body = body })) e

pub wants_commit : (c : Config) (h : Head) (body : List ℕ) → h.verb ≡ Verb.Commit → wants c (call_of h body) ≡ result_map_both form_wants (λ m. m) (commit_of body)
wants_commit c h body e = ap (λ v. wants c (record { phase = h.phase; client = h.client; line = h.line; verb = verb_view v; body = body })) e

-- ---- what a row of each kind makes the run do

shows_of_shown : (c : Config) (o : Outcome) (h : Head) (p g k : Option ℕ) (r : Reply) → Shown c o r → Shows c (shown_row h p g k r) o
shows_of_shown c o h p g k r s = record { reply = s.text; code = s.code; found = s.found; docs = s.docs }

replies_refusal : (c : Config) (row : RequestRow) (m : List ℕ) (w : Result Wanted (List ℕ)) → w ≡ Err m → Shows c row (refused m) → RepliesIdly c row w
replies_refusal c row m w e s = subst (RepliesIdly c row) (sym e) (inl s)

replies_no_memory : (c : Config) (row : RequestRow) (w : Result Wanted (List ℕ)) → Shows c row no_memory → RepliesIdly c row w
replies_no_memory c row (Ok wanted) s = s
replies_no_memory c row (Err message) s = inr s

-- ---- the notes of a row

-- it has none, where the request was refused or is no query
notes_none : (c : Config) (call : Call) (row : RequestRow) → ((row.code == 0) && is_query call.verb) ≡ false → noted row ≡ not_noted → TellsNotes c (record { call = call; row = row })
notes_none c call row e n = subst (λ b. MatchBool b (AreNotedBy (request_of c.schema.list (defaults_of c) (params_of call.body)) row.docs (noted row)) (noted row ≡ not_noted)) (sym e) n

-- a code that is not 0 is that of no answer
refused_code : (k code : ℕ) (b : Bool) → code ≡ k → (k == 0) ≡ false → ((code == 0) && b) ≡ false
refused_code k code b e other = ap (λ n. (n == 0) && b) e ∙ ap (λ x. x && b) other

-- nor is it an answer where the request is no query
no_query : (code : ℕ) (b : Bool) → b ≡ false → ((code == 0) && b) ≡ false
no_query code b e = ap (λ x. (code == 0) && x) e ∙ and_false (code == 0)
  where
    and_false : (x : Bool) → (x && false) ≡ false
    and_false true = refl
    and_false false = refl

-- a query that was answered has those of its request
notes_answered : (c : Config) (call : Call) (row : RequestRow) (req : Request) → row.code ≡ 0 → is_query call.verb ≡ true
    → request_of c.schema.list (defaults_of c) (params_of call.body) ≡ Ok req → IsNotedBy req row.docs (noted row) → TellsNotes c (record { call = call; row = row })
notes_answered c call row req z q e n =
    let read : Result Request RequestFault = request_of c.schema.list (defaults_of c) (params_of call.body) in
    subst (λ b. MatchBool b (AreNotedBy read row.docs (noted row)) (noted row ≡ not_noted)) (sym (ap₂ (λ k b. (k == 0) && b) z q))
    (subst (λ (x : Result Request RequestFault). AreNotedBy x row.docs (noted row)) (sym e) n)

module _ (c : Config) (h : Head) (body : List ℕ) (st : Standing) (r : Reply) (row : RequestRow) where
  -- the request was refused
  pub refused_follows : (m : List ℕ) → row ≡ shown_row h None None None r → Shown c (refused m) r → noted_in r ≡ not_noted → wants c (call_of h body) ≡ Err m → Follows c (call_of h body) st (told_too st row)
  refused_follows m e s n w =
      subst (λ (x : RequestRow). Follows c (call_of h body) st (told_too st x)) (sym e)
      (idle_follows c (call_of h body) st (shown_row h None None None r) refl
      (notes_none c (call_of h body) (shown_row h None None None r) (refused_code 400 r.code (is_query (verb_view h.verb)) s.code refl) n) (record { place = refl; generation = refl; ticket = refl })
      (replies_refusal c (shown_row h None None None r) m (wants c (call_of h body)) w (shows_of_shown c (refused m) h None None None r s)))

  -- there was no memory
  pub no_memory_follows : row ≡ shown_row h None None None r → Shown c no_memory r → noted_in r ≡ not_noted → Follows c (call_of h body) st (told_too st row)
  no_memory_follows e s n =
      subst (λ (x : RequestRow). Follows c (call_of h body) st (told_too st x)) (sym e)
      (idle_follows c (call_of h body) st (shown_row h None None None r) refl
      (notes_none c (call_of h body) (shown_row h None None None r) (refused_code 500 r.code (is_query (verb_view h.verb)) s.code refl) n) (record { place = refl; generation = refl; ticket = refl })
      (replies_no_memory c (shown_row h None None None r) (wants c (call_of h body)) (shows_of_shown c no_memory h None None None r s)))

  -- an update was accepted at this place
  pub accepted_follows : (change : Change) (place : ℕ) (new : Standing) → row ≡ shown_row h (Some place) None None r → place ≡ st.place → Shown c accepted r → noted_in r ≡ not_noted
      → is_query (verb_view h.verb) ≡ false → wants c (call_of h body) ≡ Ok (an_update change) → new ≡ changed change st → Follows c (call_of h body) st (told_too new row)
  accepted_follows change place new e p s bare q w n =
      subst (λ (x : Standing). Follows c (call_of h body) st (told_too x row)) (sym n)
      (subst (λ (x : RequestRow). Follows c (call_of h body) st (told_too (changed change st) x)) (sym e)
      (update_follows c (call_of h body) st (shown_row h (Some place) None None r) refl
      (notes_none c (call_of h body) (shown_row h (Some place) None None r) (no_query r.code (is_query (verb_view h.verb)) q) bare) change w (record { place = ap Some p; generation = refl; ticket = refl })
      (shows_of_shown c accepted h (Some place) None None r s)))

  -- a query was answered by the current searcher
  pub answered_follows : (asked : Asked) (req : Request) (generation ticket : ℕ) (new : Standing) → row ≡ shown_row h None (Some generation) (Some ticket) r → generation ≡ st.current.generation → ticket ≡ st.current.acquired
      → Shown c (found asked (answer st.served asked)) r → IsNotedBy req r.docs (noted_in r) → is_query (verb_view h.verb) ≡ true → request_of c.schema.list (defaults_of c) (params_of body) ≡ Ok req
      → wants c (call_of h body) ≡ Ok (an_answer asked) → new ≡ acquired st → Follows c (call_of h body) st (told_too new row)
  answered_follows asked req generation ticket new e g k s notes q read w n =
      subst (λ (x : Standing). Follows c (call_of h body) st (told_too x row)) (sym n)
      (subst (λ (x : RequestRow). Follows c (call_of h body) st (told_too (acquired st) x)) (sym e)
      (query_follows c (call_of h body) st (shown_row h None (Some generation) (Some ticket) r) refl
      (notes_answered c (call_of h body) (shown_row h None (Some generation) (Some ticket) r) req s.code q read notes) asked w (record { place = refl; generation = ap Some g; ticket = ap Some k })
      (shows_of_shown c (found asked (answer st.served asked)) h None (Some generation) (Some ticket) r s)))

  -- a commit opened a searcher at this place
  pub opened_follows : (place generation : ℕ) (new : Standing) → row ≡ shown_row h (Some place) (Some generation) None r → place ≡ st.place → generation ≡ st.current.generation + 1 → Shown c accepted r → noted_in r ≡ not_noted → is_query (verb_view h.verb) ≡ false
      → wants c (call_of h body) ≡ Ok a_searcher → 0 < c.max_warming → st.current.generation + 1 < 2 ^ 27 → new ≡ opened st → Follows c (call_of h body) st (told_too new row)
  opened_follows place generation new e p g s bare q w room within n =
      subst (λ (x : Standing). Follows c (call_of h body) st (told_too x row)) (sym n)
      (subst (λ (x : RequestRow). Follows c (call_of h body) st (told_too (opened st) x)) (sym e)
      (opening_follows c (call_of h body) st (shown_row h (Some place) (Some generation) None r) refl
      (notes_none c (call_of h body) (shown_row h (Some place) (Some generation) None r) (no_query r.code (is_query (verb_view h.verb)) q) bare) w (record { place = ap Some p; generation = ap Some g; ticket = refl })
      (shows_of_shown c accepted h (Some place) (Some generation) None r s) room within))

-- a request that was refused, by the row that was made for it
pub refusal_answers : (c : Config) (h : Head) (body : List ℕ) (st : Standing) (m : List ℕ) (r : Result rows.RequestRow NoMemory) (lacks : Bool)
    → OnOk r (lacks ≡ false) → IfOk r (IsRefusal c h m) → (lacks ≡ false → wants c (call_of h body) ≡ Err m) → IfOk r (AnswersBy c (call_of h body) st st)
refusal_answers c h body st m (Ok row) lacks known is w = refused_follows c h body st is.reply (request_view row) m is.row_is is.shown is.notes (w known)
refusal_answers c h body st m (Err e) lacks known is w = tt

-- the same from and to standings that are these
pub follows_at : (c : Config) (call : Call) (old old' new new' : Standing) → old' ≡ old → new' ≡ new → Follows c call old new → Follows c call old' new'
follows_at c call old old' new new' p q f =
    subst (λ (x : Standing). Follows c call x new') (sym p) (subst (λ (x : Standing). Follows c call old x) (sym q) f)

-- ---- the row is kept

-- where the rows are the same, the standing is
pub same_rows : (st : Standing) (before now : List rows.RequestRow) → now ≡ before → record st { rows = map request_view now } ≡ record st { rows = map request_view before }
same_rows st before now e = ap (λ (xs : List rows.RequestRow). record st { rows = map request_view xs }) e

-- where one row is put behind the others, it is told too
pub one_row_more : (st : Standing) (before now : List rows.RequestRow) (row : rows.RequestRow) → now ≡ before ++ row ∷ [] → record st { rows = map request_view now } ≡ told_too (record st { rows = map request_view before }) (request_view row)
one_row_more st before now row e = ap (λ (xs : List RequestRow). record st { rows = xs }) (ap (map request_view) e ∙ map-append request_view before (row ∷ []))
