-- Which verbs want what.
use Rattle.std.proofs.Common.{◌≡◌, ℕ, List, Bool, true, false, Result, Ok, Err, refl, sym, subst, arith, cond}
use Rattle.std.specs.Result.{result_map_both, result_unwrap_or}
use Rattle.search_model.specs.Live.{Change, nothing}
use Rattle.search_model.specs.Answer.{Asked}
use Rattle.script_form.specs.declared.config.Config.{Config}
use Rattle.run_laws.specs.Rows.{Verb, add, delete, query, commit}
use Rattle.run_laws.specs.Calls.{Call, Told}
use Rattle.run_laws.specs.CallReadings.{update_of, commit_of, query_of}
use Rattle.run_laws.specs.Places.{change_of}
use Rattle.run_history.specs.Tellings.{Wanted, an_update, a_searcher, an_answer, form_wants, wants_as, wants}

-- what P says of each image it says of what comes of a result
mapped : {A : Type 0} (f : A → Wanted) (P : Wanted → Type 0) → ((a : A) → P (f a)) → (x : Result A (List ℕ)) (w : Wanted) → result_map_both f (λ m. m) x ≡ Ok w → P w
mapped f P each (Ok a) w e = let same : f a ≡ w = cc in subst P same (each a)
mapped f P each (Err m) w e = absurd (grind arith)

-- what a request of the verb may want
abbrev IsWanted : Verb → Wanted → Type 0
IsWanted add (an_update u) = Unit {0}
IsWanted delete (an_update u) = Unit {0}
IsWanted query (an_answer a) = Unit {0}
IsWanted commit a_searcher = Unit {0}
IsWanted commit (an_update u) = nothing ≡ u
IsWanted _ _ = ⊥

form_wanted : (b : Bool) → IsWanted commit (cond b a_searcher (an_update nothing))
form_wanted true = tt
form_wanted false = refl

is_wanted : (v : Verb) (c : Config) (call : Call) (w : Wanted) → wants_as v c call ≡ Ok w → IsWanted v w
is_wanted add c call w e = mapped an_update (IsWanted add) (λ u. tt) (update_of c call) w e
is_wanted delete c call w e = mapped an_update (IsWanted delete) (λ u. tt) (update_of c call) w e
is_wanted query c call w e = mapped an_answer (IsWanted query) (λ a. tt) (query_of c call.body) w e
is_wanted commit c call w e = mapped form_wants (IsWanted commit) (λ form. form_wanted form.opens) (commit_of call.body) w e

-- only queries want an answer
pub answer_by_query : (v : Verb) (c : Config) (call : Call) (a : Asked) → wants_as v c call ≡ Ok (an_answer a) → v ≡ query
answer_by_query add c call a e = absurd (is_wanted add c call (an_answer a) e)
answer_by_query delete c call a e = absurd (is_wanted delete c call (an_answer a) e)
answer_by_query query c call a e = refl
answer_by_query commit c call a e = absurd (is_wanted commit c call (an_answer a) e)

-- only commits want a searcher
pub searcher_by_commit : (v : Verb) (c : Config) (call : Call) → wants_as v c call ≡ Ok a_searcher → v ≡ commit
searcher_by_commit add c call e = absurd (is_wanted add c call a_searcher e)
searcher_by_commit delete c call e = absurd (is_wanted delete c call a_searcher e)
searcher_by_commit query c call e = absurd (is_wanted query c call a_searcher e)
searcher_by_commit commit c call e = refl

-- what the row of a request that wants an update changed
update_change : (x : Result Change (List ℕ)) (u : Change) → result_map_both an_update (λ m. m) x ≡ Ok (an_update u) → result_unwrap_or x nothing ≡ u
update_change (Ok y) u e = cc
update_change (Err m) u e = absurd (grind arith)

changed_as : (c : Config) (v : Verb) (phase client line : ℕ) (body : List ℕ) (u : Change) → wants_as v c (record { phase = phase; client = client; line = line; verb = v; body = body }) ≡ Ok (an_update u) → result_unwrap_or (update_of c (record { phase = phase; client = client; line = line; verb = v; body = body })) nothing ≡ u
changed_as c add phase client line body u e = update_change (update_of c (record { phase = phase; client = client; line = line; verb = add; body = body })) u e
changed_as c delete phase client line body u e = update_change (update_of c (record { phase = phase; client = client; line = line; verb = delete; body = body })) u e
changed_as c query phase client line body u e = absurd (is_wanted query c (record { phase = phase; client = client; line = line; verb = query; body = body }) (an_update u) e)
changed_as c commit phase client line body u e = is_wanted commit c (record { phase = phase; client = client; line = line; verb = commit; body = body }) (an_update u) e

pub changed_by : (c : Config) (t : Told) (u : Change) → wants c t.call ≡ Ok (an_update u) → change_of c t ≡ u
changed_by c t u e = changed_as c t.call.verb t.call.phase t.call.client t.call.line t.call.body u e

commit_changes_nothing : (c : Config) (v : Verb) (phase client line : ℕ) (body : List ℕ) → v ≡ commit → result_unwrap_or (update_of c (record { phase = phase; client = client; line = line; verb = v; body = body })) nothing ≡ nothing
commit_changes_nothing c v phase client line body e = subst (λ w. result_unwrap_or (update_of c (record { phase = phase; client = client; line = line; verb = w; body = body })) nothing ≡ nothing) (sym e) refl

pub opening_changes_nothing : (c : Config) (t : Told) → wants c t.call ≡ Ok a_searcher → change_of c t ≡ nothing
opening_changes_nothing c t e = commit_changes_nothing c t.call.verb t.call.phase t.call.client t.call.line t.call.body (searcher_by_commit t.call.verb c t.call e)
