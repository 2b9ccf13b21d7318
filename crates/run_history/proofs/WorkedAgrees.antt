-- The worked output's rows agree with a legal history, request by request.
use Rattle.std.proofs.Common.{ℕ, List, [], ◌∷◌, ◌++◌, map, false, Some, None, refl, inl, arith}
use Rattle.search_model.specs.Answer.{answer}
use Rattle.search_model.specs.Live.{added, nothing}
use Rattle.search_model.specs.Reply.{accepted, found}
use Rattle.run_laws.specs.Rows.{add, query, commit}
use Rattle.run_laws.specs.Calls.{Told}
use Rattle.run_laws.specs.Trials.{one_warming, add_a, find_x, document_a, asked_x, added_at, committed_at, served, add_commit_query, worked}
use Rattle.run_laws.proofs.Worked.{shows}
use Rattle.run_history.specs.Tellings.{Telling, Life}
use Rattle.run_history.specs.Agreement.{OutputAgrees}
use Rattle.run_history.specs.Serial.{Stand, Serves, telling, once_more, next_life, stand_at_start, stand_after_update, stand_after_query, stand_after_opening, start_entries, update_entries, query_entries, opening_entries}
use Rattle.run_history.specs.Serial as serial
use Rattle.run_history.specs.Trials.{Step, read, limits, call, worked_history}
use Rattle.run_history.proofs.TrialParts.{adds_a, asks_x, not_before}
use Rattle.run_history.proofs.Starts.{starts}
use Rattle.run_history.proofs.Requests.{update_serves, query_serves, opening_serves}

abbrev add_told : Told
add_told = record { call = call 1 add add_a; row = added_at 1 1 2 }

abbrev commit_told : Told
commit_told = record { call = call 2 commit []; row = committed_at 1 2 3 2 }

abbrev query_told : Told
query_told = record { call = call 3 query find_x; row = served 3 2 0 (document_a ∷ []) }

abbrev stand_0 : Stand
stand_0 = stand_at_start 0 false

abbrev stand_1 : Stand
stand_1 = stand_after_update stand_0 (added document_a)

abbrev stand_2 : Stand
stand_2 = stand_after_opening stand_1 1

abbrev history_0 : List Step
history_0 = start_entries 1 (0, nothing) 0 [] false

abbrev history_1 : List Step
history_1 = history_0 ++ update_entries 1 (1, added document_a)

abbrev history_2 : List Step
history_2 = history_1 ++ opening_entries stand_1 1 (2, nothing) 1 (document_a ∷ [])

abbrev lives_0 : List Life
lives_0 = serial.first_life false ∷ []

abbrev lives_2 : List Life
lives_2 = map (once_more 1) lives_0 ++ next_life history_1 stand_1 ∷ []

abbrev rows_1 : List Telling
rows_1 = [] ++ telling history_0 add_told ∷ []

abbrev rows_2 : List Telling
rows_2 = rows_1 ++ telling history_1 commit_told ∷ []

start_serves : Serves read limits one_warming history_0 [] lives_0 stand_0
start_serves = starts ℕ read limits one_warming 1 (0, nothing) 0 [] (record { first = refl; last = omega arith; room = omega arith; slot_below = omega arith; none = refl })

add_serves : Serves read limits one_warming history_1 rows_1 lives_0 stand_1
add_serves = update_serves read limits one_warming history_0 [] lives_0 stand_0 start_serves add_told (1, added document_a) refl (adds_a 1) (record { place = refl; generation = refl; ticket = refl }) (shows 1 1 add (Some 2) None None accepted) tt

commit_serves : Serves read limits one_warming history_2 rows_2 lives_2 stand_2
commit_serves =
    opening_serves read limits one_warming history_1 rows_1 lives_0 stand_1 add_serves commit_told (2, nothing) 1 (document_a ∷ []) refl refl (record { place = refl; generation = refl; ticket = refl }) (shows 1 2 commit (Some 3) (Some 2) None accepted)
    ((λ b. not_before (call 2 commit []) (call 1 add add_a) (omega arith) (omega arith) b), tt) refl (λ e. omega (arith, e)) (omega arith) (omega arith) (omega arith)

all_serve : Serves read limits one_warming (history_2 ++ query_entries stand_2 1) (rows_2 ++ telling history_2 query_told ∷ []) (map (once_more 2) lives_2) (stand_after_query stand_2)
all_serve =
    query_serves read limits one_warming history_2 rows_2 lives_2 stand_2 commit_serves query_told asked_x (asks_x 3) (record { place = refl; generation = refl; ticket = refl }) (inl (shows 1 3 query None (Some 2) (Some 0) (found asked_x (answer (document_a ∷ []) asked_x))))
    ((λ b. not_before (call 3 query find_x) (call 1 add add_a) (omega arith) (omega arith) b), ((λ b. not_before (call 3 query find_x) (call 2 commit []) (omega arith) (omega arith) b), tt))

pub worked_agrees : OutputAgrees read limits one_warming add_commit_query worked_history worked
worked_agrees = record {
  tellings = rows_2 ++ telling history_2 query_told ∷ [];
  lives = map (once_more 2) lives_2;
  agrees = all_serve.agrees;
  rows = refl;
  told = refl;
  searchers = refl;
}
