-- The run in which memory is wanting for each request.
use Rattle.std.proofs.Common.{◌≡◌, ℕ, ◌<◌, List, [], ◌∷◌, ◌++◌, map, None, Result, Ok, Err, refl, sym, ap, subst, inr, append-nil, append_assoc}
use Rattle.std.specs.List.{AllByRecursion}
use Rattle.search_model.specs.Live.{nothing}
use Rattle.search_model.specs.Reply.{no_memory, reply_text, code_of, found_of, docs_of}
use Rattle.script_form.specs.declared.config.Config.{Config}
use Rattle.script_form.specs.declared.script.Line.{Line}
use Rattle.run_laws.specs.Rows.{RequestRow, Output}
use Rattle.run_laws.specs.Calls.{Call, calls_of}
use Rattle.run_laws.specs.Lawful.{Ascends, Lawful, Shows, is_acquired_first}
use Rattle.run_history.specs.Tellings.{Telling, Life, Wanted, wants}
use Rattle.run_history.specs.Agreement.{RepliesIdly}
use Rattle.run_history.specs.Serial.{Stand, Serves, idle, first_life, start_entries}
use Rattle.run_history.proofs.Requests.{idle_serves}
use Rattle.client_runner.specs.Histories.{Event, reading, limits}
use Rattle.client_runner.specs.Standings.{first}
use Rattle.client_runner.specs.Runs.{IsOfItsCall, stand}
use Rattle.client_runner.proofs.Ended.{in_order, lawful_by}
use Rattle.client_runner.proofs.Follows.{runs_first}

-- the row of a request for which memory was wanting
abbrev idle_row : Config → Call → RequestRow
idle_row c q = record {
  client = q.client;
  line = q.line;
  verb = q.verb;
  place = None;
  generation = None;
  ticket = None;
  reply = reply_text c.schema no_memory;
  code = code_of no_memory;
  found = found_of no_memory;
  docs = docs_of no_memory;
  result = None;
  filters = [];
  doc_hits = 0;
}

abbrev idle_telling : Config → Call → Telling
idle_telling c q = idle (record { call = q; row = idle_row c q })

shows : (c : Config) (q : Call) → Shows c (idle_row c q) no_memory
shows c q = record { reply = refl; code = refl; found = refl; docs = refl }

replies : (c : Config) (q : Call) (w : Result Wanted (List ℕ)) → RepliesIdly c (idle_row c q) w
replies c q (Ok wanted) = shows c q
replies c q (Err message) = inr (shows c q)

abbrev begin : Config → List Event
begin c = start_entries 1 (0, nothing) 1 [] (is_acquired_first c)

abbrev firsts : Config → List Life
firsts c = first_life (is_acquired_first c) ∷ []

abbrev stood : Config → Stand
stood c = stand (first (is_acquired_first c))

all_serve : (c : Config) (ts : List Telling) (qs : List Call) → Serves reading (limits c) c (begin c) ts (firsts c) (stood c)
    → Serves reading (limits c) c (begin c) (ts ++ map (idle_telling c) qs) (firsts c) (stood c)
all_serve c ts [] k = subst (λ us. Serves reading (limits c) c (begin c) us (firsts c) (stood c)) (sym (append-nil ts)) k
all_serve c ts (q ∷ qs) k =
    let one = idle_serves reading (limits c) c (begin c) ts (firsts c) (stood c) k (record { call = q; row = idle_row c q }) (record { place = refl; generation = refl; ticket = refl }) (replies c q (wants c q)) in
    subst (λ us. Serves reading (limits c) c (begin c) us (firsts c) (stood c)) (append_assoc ts (idle_telling c q ∷ []) (map (idle_telling c) qs)) (all_serve c (ts ++ idle_telling c q ∷ []) qs one)

all_here : (c : Config) (qs : List Call) → AllByRecursion IsOfItsCall (map (idle_telling c) qs)
all_here c [] = tt
all_here c (q ∷ qs) = (refl, all_here c qs)

calls_again : (c : Config) (qs : List Call) → map (λ (t : Telling). t.told.call) (map (idle_telling c) qs) ≡ qs
calls_again c [] = refl
calls_again c (q ∷ qs) = ap (λ xs. q ∷ xs) (calls_again c qs)

-- whatever the script, this output is lawful
pub some_lawful : (c : Config) (script : List Line) → 0 < c.max_warming → Ascends (map (λ (l : Line). l.number) script) → (o : Output) × Lawful c script o
some_lawful c script room up =
    let ts : List Telling = map (idle_telling c) (calls_of script) in
    let o : Output = record { requests = map (λ (t : Telling). t.told.row) ts; searchers = (first_life (is_acquired_first c)).row ∷ [] } in
    let k = all_serve c [] (calls_of script) (runs_first c room).serves in
    (o, lawful_by c script o up (begin c, k.settled.legal, in_order c script (begin c) ts (firsts c) o k.agrees (all_here c (calls_of script)) (calls_again c (calls_of script)) refl refl))
