-- Which laws hold where a document is added, committed and found.
use Rattle.std.proofs.Common.{◌≡◌, ℕ, List, [], ◌∷◌, length, map, take, drop, cond, Bool, true, ◌&&◌, Option, Some, None, codes, refl, ap, ◌∙◌, inl, arith, rules}
use Rattle.std.specs.Fmt.{digits}
use Rattle.serde_json.proofs.OnLiterals.{serde_json_on_literals}
use Rattle.field_schema.specs.declared.key.Key.TheVariants.{Str}
use Rattle.doc_model.specs.Document.{Document}
use Rattle.query_tree.specs.Matches.{top}
use Rattle.query_tree.proofs.Matching.{top_Term}
use Rattle.search_model.specs.Reply.{Outcome, found, accepted, found_of}
use Rattle.sort_order.specs.Order.{in_order}
use Rattle.search_model.specs.Answer.{Answer, answer, entries}
use Rattle.run_laws.proofs.OnLiterals.{requests_on_literals}
use Rattle.script_form.specs.declared.config.Config.{Config}
use Rattle.script_form.specs.declared.script.Line.{Line}
use Rattle.run_laws.specs.Rows.{Verb, add, query, commit, Output}
use Rattle.run_laws.specs.CallReadings.{update_of}
use Rattle.run_laws.specs.Lawful.{Lawful, Shows, UpdateIsAnswered}
use Rattle.run_laws.specs.OutputText.{output_text}
use Rattle.run_laws.specs.Trials.{Law, one_row_each, one_history, orders, answers, greatest_serves, tickets, ticket_order, warmings, Keeps, one_warming, two_warming, add_a, document_a, asked_x, add_commit_query, row, added_at, committed_at, served, found_once, worked, worked_text}

-- the numbers of a trial's row are those of its outcome
pub shows : (client number : ℕ) (verb : Verb) (place generation ticket : Option ℕ) (o : Outcome) → Shows one_warming (row client number verb place generation ticket o) o
shows client number verb place generation ticket o = record { reply = refl; code = refl; found = refl; docs = refl }

pub shows_two : (client number : ℕ) (verb : Verb) (place generation ticket : Option ℕ) (o : Outcome) → Shows two_warming (row client number verb place generation ticket o) o
shows_two client number verb place generation ticket o = record { reply = refl; code = refl; found = refl; docs = refl }

-- and so they are those of some outcome
pub tells : (client number : ℕ) (verb : Verb) (place generation ticket : Option ℕ) (o : Outcome) → (outcome : Outcome) × Shows one_warming (row client number verb place generation ticket o) outcome
tells client number verb place generation ticket o = (o, shows client number verb place generation ticket o)

pub tells_added : (client number place : ℕ) → (outcome : Outcome) × Shows one_warming (added_at client number place) outcome
tells_added client number place = tells client number add (Some place) None None accepted

pub tells_committed : (client number place generation : ℕ) → (outcome : Outcome) × Shows one_warming (committed_at client number place generation) outcome
tells_committed client number place generation = tells client number commit (Some place) (Some generation) None accepted

pub tells_served : (number generation ticket : ℕ) (view : List Document) → (outcome : Outcome) × Shows one_warming (served number generation ticket view) outcome
tells_served number generation ticket view = tells 1 number query None (Some generation) (Some ticket) (found asked_x (answer view asked_x))

-- an add of the document is answered, wherever it is placed
pub add_answered : (phase client number place : ℕ) → UpdateIsAnswered one_warming (added_at client number place) (update_of one_warming (record { phase = phase; client = client; line = number; verb = add; body = add_a }))
unfolding serde_json_on_literals
add_answered phase client number place = inl (record { place = refl; generation = refl; ticket = refl; shown = shows client number add (Some place) None None accepted })

module _ (acquired acquired_then : ℕ) (from : Option (ℕ × ℕ)) (ticket : ℕ) where
  pub found_rows : Keeps one_warming add_commit_query (found_once acquired acquired_then from ticket) one_row_each
  found_rows = record { rows = refl; numbers = (tells_added 1 1 2, (tells_committed 1 2 3 2, (tells_served 3 2 ticket (document_a ∷ []), tt))); generations = refl }

  pub found_history : Keeps one_warming add_commit_query (found_once acquired acquired_then from ticket) one_history
  found_history = search rules

  pub found_orders : Keeps one_warming add_commit_query (found_once acquired acquired_then from ticket) orders
  found_orders = search rules

  -- the second searcher sees the document, and is current at place 4
  pub found_answers : Keeps one_warming add_commit_query (found_once acquired acquired_then from ticket) answers
  unfolding serde_json_on_literals requests_on_literals
  found_answers = (
    add_answered 0 1 1 2,
    (
      inl (inl (3, 2, record { place = refl; generation = refl; ticket = refl; opened = refl; room = omega arith; shown = shows 1 2 commit (Some 3) (Some 2) None accepted })),
      (
        inl (
          2,
          ticket,
          record {
            place = refl;
            generation = refl;
            ticket = refl;
            current = (4, omega arith, omega arith, refl);
            rising = tt;
            shown = inl (shows 1 3 query None (Some 2) (Some ticket) (found asked_x (answer (document_a ∷ []) asked_x)));
          },
        ),
        tt,
      ),
    ),
  )

  pub found_serves : Keeps one_warming add_commit_query (found_once acquired acquired_then from ticket) greatest_serves
  found_serves = search rules

-- the second searcher was warmed from the first while that was current
pub found_warmings : (acquired acquired_then pin ticket : ℕ) → Keeps one_warming add_commit_query (found_once acquired acquired_then (Some (1, pin)) ticket) warmings
found_warmings acquired acquired_then pin ticket = (refl, ((refl, (3, omega arith, omega arith, refl)), tt))

-- ---- what the query finds

x_matches : top document_a.values asked_x.query ≡ true
x_matches = top_Term document_a.values 1 (Str (codes "x"))

-- what is found where the document matches, or does not
abbrev found_if : Bool → List Document
found_if matches = map (λ e. e.1) (in_order [] (cond (matches && true) (entries (document_a ∷ [])) []))

-- the query finds the document
pub finds_one : found_of (found asked_x (answer (document_a ∷ []) asked_x)) ≡ 1
finds_one = ap (λ b. length (found_if b)) x_matches

pub worked_found : map (λ r. r.found) worked.requests ≡ 0 ∷ 0 ∷ 1 ∷ []
worked_found = ap (λ n. 0 ∷ 0 ∷ n ∷ []) finds_one

pub worked_docs : map (λ r. r.docs) worked.requests ≡ 0 ∷ 0 ∷ 1 ∷ []
worked_docs = ap (λ b. 0 ∷ 0 ∷ length (take 10 (drop 0 (found_if b))) ∷ []) x_matches

-- ---- the whole

-- an output is lawful that keeps each law
pub lawful_by : (c : Config) (script : List Line) (o : Output) → ((law : Law) → Keeps c script o law) → Lawful c script o
lawful_by c script o keeps = record {
  answers_each = keeps one_row_each;
  one_history = keeps one_history;
  keeps_order = keeps orders;
  answered = keeps answers;
  greatest_serves = keeps greatest_serves;
  tickets = keeps tickets;
  ticket_order = keeps ticket_order;
  warmings = keeps warmings;
}

worked_keeps : (law : Law) → Keeps one_warming add_commit_query worked law
worked_keeps one_row_each = found_rows 1 1 (Some (1, 0)) 0
worked_keeps one_history = found_history 1 1 (Some (1, 0)) 0
worked_keeps orders = found_orders 1 1 (Some (1, 0)) 0
worked_keeps answers = found_answers 1 1 (Some (1, 0)) 0
worked_keeps greatest_serves = found_serves 1 1 (Some (1, 0)) 0
worked_keeps tickets = search rules
worked_keeps ticket_order = search rules
worked_keeps warmings = found_warmings 1 1 0 0

pub worked_is_lawful : Lawful one_warming add_commit_query worked
worked_is_lawful = lawful_by one_warming add_commit_query worked worked_keeps

-- ---- its text

pub one_answer : answer (document_a ∷ []) asked_x ≡ record { found = 1; docs = document_a ∷ [] }
one_answer =
    ap (λ b. let a : Answer = record { found = length (found_if b); docs = take 10 (drop 0 (found_if b)) } in a) x_matches

-- the text, where the query is answered so
text_with : Answer → List ℕ
text_with a = output_text (record {
  requests = added_at 1 1 2 ∷ committed_at 1 2 3 2 ∷ row 1 3 query None (Some 2) (Some 0) (found asked_x a) ∷ [];
  searchers = worked.searchers;
})

text_with_one : text_with (record { found = 1; docs = document_a ∷ [] }) ≡ worked_text
unfolding serde_json_on_literals digits text_with
text_with_one = refl

pub worked_text_is : output_text worked ≡ worked_text
unfolding text_with
worked_text_is = ap text_with one_answer ∙ text_with_one
