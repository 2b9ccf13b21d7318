-- Between which places a request was served.
use Rattle.std.specs.Prelude.{ℕ, List, [], ◌++◌, Bool, true, false, ◌||◌, ◌==◌, nat_lt, if◌then◌else◌, min, max, fold, Option, Some, None}
use Rattle.std.specs.List.{flat_map, filter_map}
use Rattle.std.specs.Option.{option_to_list, option_and_then}
use Rattle.std.specs.Result.{result_ok}
use Rattle.request_form.specs.declared.commit.CommitForm.{CommitForm}
use Rattle.run_laws.specs.Rows.{Verb, query, commit, SearcherRow}
use Rattle.run_laws.specs.Calls.{Told}
use Rattle.run_laws.specs.CallReadings.{commit_of}
use Rattle.run_laws.specs.Places.{ended_of}

abbrev pub is_commit : Verb → Bool
is_commit commit = true
is_commit _ = false

abbrev pub is_query : Verb → Bool
is_query query = true
is_query _ = false

-- the generation that a commit's row opened
abbrev pub opened_by : Told → Option ℕ
opened_by t = if is_commit t.call.verb then t.row.generation else None

-- the end of the searcher that it opened
abbrev pub end_opened_by : List SearcherRow → Told → Option ℕ
end_opened_by ss t = option_and_then (λ g. ended_of g ss) (opened_by t)

-- a commit for whose searcher its client waited
abbrev pub waits : Told → Bool
waits t = is_waiting (result_ok (commit_of t.call.body))
  where
    is_waiting : Option CommitForm → Bool
    is_waiting None = false
    is_waiting (Some form) = form.wait

-- the places that an earlier request sets below a later one's: its own, and its searcher's end where that was waited for
abbrev pub sets_below : List SearcherRow → Told → Told → List ℕ
sets_below ss t e =
    if nat_lt e.call.phase t.call.phase then option_to_list e.row.place ++ option_to_list (end_opened_by ss e) else
    (if e.call.client == t.call.client then option_to_list e.row.place ++ (if waits e then option_to_list (end_opened_by ss e) else []) else [])

-- the place that a later request sets above an earlier one's
abbrev pub sets_above : Told → Told → Option ℕ
sets_above t l = if nat_lt t.call.phase l.call.phase || (l.call.client == t.call.client) then l.row.place else None

-- the greatest place that lies below the request
abbrev pub low : List SearcherRow → List Told → Told → ℕ
low ss earlier t = fold max 1 (flat_map (sets_below ss t) earlier)

-- the least place that lies above it
abbrev pub high : ℕ → Told → List Told → ℕ
high count t later = fold min count (filter_map (sets_above t) later)
