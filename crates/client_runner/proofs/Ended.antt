-- What a serial run gives at its end goes by its history.
use Rattle.std.proofs.Common.{◌≡◌, ℕ, ◌<◌, ◌≤◌, List, [], ◌∷◌, ◌++◌, length, map, get_or, refl, sym, ap, ap₂, subst, ◌∙◌, arith}
use Rattle.std.specs.List.{AllByRecursion}
use Rattle.std.specs.List.Sorted.{IsPermutation, IsNonDecreasingBy}
use Rattle.std.proofs.lemmas.List.Elements.{All-from_recursion, recursion_from_All}
use Rattle.std.proofs.lemmas.List.Sorted.{All-permutation, IsPermutation-map, IsPermutation-trans}
use Rattle.std.proofs.lemmas.List.{length-map, get_or-map, map-append}
use Rattle.script_form.specs.declared.config.Config.{Config}
use Rattle.script_form.specs.declared.script.Line.{Line}
use Rattle.run_laws.specs.Rows.{RequestRow, Output}
use Rattle.run_laws.specs.Calls.{Call, Told, calls_of, tell}
use Rattle.run_laws.specs.Lawful.{Ascends, Lawful, call_here, told_here, is_acquired_first}
use Rattle.run_laws.specs.Notes.{TellNotes, TellsNotes}
use Rattle.run_history.specs.Tellings.{Telling, Life}
use Rattle.search_model.specs.Live.{nothing}
use Rattle.run_history.specs.Agreement.{Agrees, OutputAgrees, ComesBefore}
use Rattle.run_history.specs.Serial.{first_life, start_entries}
use Rattle.run_history.proofs.Elements.{all_map, all_unmap}
use Rattle.run_history.proofs.Ordering.{calls_ascend}
use Rattle.run_history.proofs.Starts.{permuted}
use Rattle.run_history.proofs.Laws.{lawful}
use Rattle.client_runner.specs.Histories.{Event, reading, limits, GoesByHistory}
use Rattle.client_runner.specs.Standings.{Standing, first, searchers_of}
use Rattle.client_runner.specs.Runs.{Runs, Goes, Follows, IsOfItsCall, TellsItsNotes}
use Rattle.client_runner.proofs.Follows.{runs_first}
use Rattle.client_runner.proofs.Rising.{IsRising, sorted_is_risen, moved_back}

told_again : (us : List Telling) → map (λ (t : Telling). t.told) us ≡ tell (map (λ (t : Telling). t.told.call) us) (map (λ (t : Telling). t.told.row) us)
told_again [] = refl
told_again (t ∷ us) = ap (λ (ts : List Told). t.told ∷ ts) (told_again us)

rows_here : (us : List Telling) → AllByRecursion IsOfItsCall us → map told_here (map (λ (t : Telling). t.told.row) us) ≡ map call_here (map (λ (t : Telling). t.told.call) us)
rows_here [] here = refl
rows_here (t ∷ us) here = ap₂ (λ x xs. x ∷ xs) here.0 (rows_here us here.1)

-- rows in the order of the script
pub in_order : (c : Config) (script : List Line) (h : List Event) (us : List Telling) (lives : List Life) (o : Output)
    → Agrees reading (limits c) c h us lives → AllByRecursion IsOfItsCall us → map (λ t. t.told.call) us ≡ calls_of script → map (λ t. t.told.row) us ≡ o.requests → map (λ s. s.row) lives ≡ o.searchers
    → OutputAgrees reading (limits c) c script h o
in_order c script h us lives o agrees here calls rows searchers = record {
  tellings = us;
  lives = lives;
  agrees = agrees;
  rows = ap (map told_here) (sym rows) ∙ rows_here us here ∙ ap (map call_here) calls;
  told = told_again us ∙ ap₂ tell calls rows;
  searchers = searchers;
}

-- ---- what is sorted, under a map

pub under_map : {A B : Type 0} (f : A → B) (n : B → ℕ) (xs : List A) → IsNonDecreasingBy (λ x. n (f x)) xs → IsNonDecreasingBy n (map f xs)
under_map f n [] up i j d le l = absurd (omega arith)
under_map f n (x ∷ xs) up i j d le l =
    let within : j < length (x ∷ xs) = omega (arith, l, length-map (x ∷ xs) f) in
    let at_i : get_or (map f (x ∷ xs)) i d ≡ f (get_or (x ∷ xs) i x) = get_or-map f (x ∷ xs) i x d (omega arith) in
    let at_j : get_or (map f (x ∷ xs)) j d ≡ f (get_or (x ∷ xs) j x) = get_or-map f (x ∷ xs) j x d within in
    subst (λ y. n y ≤ n (get_or (map f (x ∷ xs)) j d)) (sym at_i) (subst (λ y. n (f (get_or (x ∷ xs) i x)) ≤ n y) (sym at_j) (up i j x le within))

unmapped : {A : Type 0} (n : A → ℕ) (xs : List A) → IsNonDecreasingBy (λ k. k) (map n xs) → IsNonDecreasingBy n xs
unmapped n xs up i j d le l =
    let at_i : get_or (map n xs) i (n d) ≡ n (get_or xs i d) = get_or-map n xs i d (n d) (omega arith) in
    let at_j : get_or (map n xs) j (n d) ≡ n (get_or xs j d) = get_or-map n xs j d (n d) l in
    subst (λ k. k ≤ n (get_or xs j d)) at_i (subst (λ k. get_or (map n xs) i (n d) ≤ k) at_j (up i j (n d) le (omega (arith, l, length-map xs n))))

-- ---- rows that were sorted by line

rising : (qs : List Call) → Ascends (map (λ (q : Call). q.line) qs) → IsRising (λ (q : Call). q.line) qs
rising [] up = tt
rising (q ∷ qs) up = (above qs up.0, rising qs up.1)
  where
    above : (rest : List Call) → AllByRecursion (λ n. q.line < n) (map (λ (x : Call). x.line) rest) → AllByRecursion (λ (x : Call). q.line < x.line) rest
    above [] h = tt
    above (x ∷ rest) h = (h.0, above rest h.1)

-- a row's line is that of its request
same_lines : (us : List Telling) → AllByRecursion IsOfItsCall us → map (λ (r : RequestRow). r.line) (map (λ (t : Telling). t.told.row) us) ≡ map (λ (q : Call). q.line) (map (λ (t : Telling). t.told.call) us)
same_lines [] here = refl
same_lines (t ∷ us) here = ap₂ (λ (x : ℕ) xs. x ∷ xs) (ap (λ x. x.1) here.0) (same_lines us here.1)

sorted_under : {A B : Type 0} (n : A → ℕ) (m : B → ℕ) (xs : List A) (ys : List B) → map n xs ≡ map m ys → IsNonDecreasingBy n xs → IsNonDecreasingBy m ys
sorted_under n m xs ys same up = unmapped m ys (subst (IsNonDecreasingBy (λ k. k)) same (under_map n (λ k. k) xs up))

-- the run is over: its rows were sorted by line
pub goes_by : (c : Config) (script : List Line) (h : List Event) (ts : List Telling) (lives : List Life) (st : Standing) (o : Output)
    → Runs c h ts lives st → Ascends (map (λ l. l.number) script) → IsPermutation (calls_of script) (map (λ t. t.told.call) ts)
    → IsPermutation st.rows o.requests → IsNonDecreasingBy (λ r. r.line) o.requests → o.searchers ≡ searchers_of st → GoesByHistory c script o × TellNotes c script o
goes_by c script h ts lives st o runs numbers served moved sorted searchers =
    let back = moved_back (λ (t : Telling). t.told.row) ts o.requests (subst (λ rows. IsPermutation rows o.requests) (sym runs.rows) moved) in
    let us = back.0 in
    let here : AllByRecursion IsOfItsCall us = recursion_from_All IsOfItsCall us (All-permutation IsOfItsCall ts us back.1 (All-from_recursion IsOfItsCall ts runs.here)) in
    let calls_moved : IsPermutation (calls_of script) (map (λ (t : Telling). t.told.call) us) = IsPermutation-trans (calls_of script) (map (λ (t : Telling). t.told.call) ts) (map (λ (t : Telling). t.told.call) us) served (IsPermutation-map (λ (t : Telling). t.told.call) ts us back.1) in
    let up : IsNonDecreasingBy (λ (q : Call). q.line) (map (λ (t : Telling). t.told.call) us) = sorted_under (λ (r : RequestRow). r.line) (λ (q : Call). q.line) (map (λ (t : Telling). t.told.row) us) (map (λ (t : Telling). t.told.call) us) (same_lines us here) (subst (IsNonDecreasingBy (λ (r : RequestRow). r.line)) (sym back.2) sorted) in
    let calls : map (λ (t : Telling). t.told.call) us ≡ calls_of script = sorted_is_risen (λ (q : Call). q.line) (map (λ (t : Telling). t.told.call) us) (calls_of script) (rising (calls_of script) (calls_ascend 0 script numbers)) calls_moved up in
    let notes : AllByRecursion (TellsItsNotes c) us = recursion_from_All (TellsItsNotes c) us (All-permutation (TellsItsNotes c) ts us back.1 (All-from_recursion (TellsItsNotes c) ts runs.notes)) in (
      (h, runs.serves.settled.legal, in_order c script h us lives o (permuted reading (limits c) c h lives ts us back.1 runs.serves.agrees) here calls back.2 (runs.searchers ∙ sym searchers)),
      subst (AllByRecursion (TellsNotes c)) (told_again us ∙ ap₂ tell calls back.2) (all_map (λ (t : Telling). t.told) (TellsNotes c) us notes),
    )

-- ---- a run so far

-- these requests were served, in this order
pub record Served (c : Config) (calls : List Call) (st : Standing) : Type 0 where
  pub history : List Event
  pub tellings : List Telling
  pub lives : List Life
  pub runs : Runs c history tellings lives st
  pub calls_are : map (λ t. t.told.call) tellings ≡ calls

pub none_served : (c : Config) → 0 < c.max_warming → Served c [] (first (is_acquired_first c))
none_served c room = record {
  history = start_entries 1 (0, nothing) 1 [] (is_acquired_first c);
  tellings = [];
  lives = first_life (is_acquired_first c) ∷ [];
  runs = runs_first c room;
  calls_are = refl;
}

pub one_more_served : (c : Config) (calls : List Call) (call : Call) (old new : Standing) → Served c calls old → Follows c call old new → AllByRecursion (λ q. ComesBefore call q → ⊥) calls → Served c (calls ++ call ∷ []) new
one_more_served c calls call old new before follows last =
    let goes : Goes c before.history before.tellings call new = follows before.history before.tellings before.lives before.runs
    (all_unmap (λ (t : Telling). t.told.call) (λ q. ComesBefore call q → ⊥) before.tellings (subst (AllByRecursion (λ q. ComesBefore call q → ⊥)) (sym before.calls_are) last)) in
    record {
      history = before.history ++ goes.more;
      tellings = before.tellings ++ record { told = record { call = call; row = goes.row }; index = goes.index } ∷ [];
      lives = goes.lives;
      runs = goes.runs;
      calls_are = map-append (λ (t : Telling). t.told.call) before.tellings (record { told = record { call = call; row = goes.row }; index = goes.index } ∷ []) ∙ ap (λ qs. qs ++ call ∷ []) before.calls_are;
    }

-- the end of a run in which all requests of the script were served
pub ended : (c : Config) (script : List Line) (calls : List Call) (st : Standing) (o : Output) → Served c calls st → Ascends (map (λ l. l.number) script) → IsPermutation (calls_of script) calls
    → IsPermutation st.rows o.requests → IsNonDecreasingBy (λ r. r.line) o.requests → o.searchers ≡ searchers_of st → GoesByHistory c script o × TellNotes c script o
ended c script calls st o s numbers all moved sorted searchers =
    goes_by c script s.history s.tellings s.lives st o s.runs numbers (subst (IsPermutation (calls_of script)) (sym s.calls_are) all) moved sorted searchers

-- what goes by a history is lawful
pub lawful_by : (c : Config) (script : List Line) (o : Output) → Ascends (map (λ l. l.number) script) → GoesByHistory c script o → Lawful c script o
lawful_by c script o numbers goes = lawful reading (limits c) c script goes.0 o refl refl goes.1 numbers goes.2
