-- How a serial run goes on by one request.
use Rattle.std.proofs.Common.{◌≡◌, ◌≢◌, ℕ, ◌+◌, ◌%◌, ◌^◌, ◌<◌, List, [], ◌∷◌, ◌++◌, length, map, Bool, true, false, cond, Some, None, Ok, refl, sym, ap, ap₂, subst, ◌∙◌, inl, arith, append-nil}
use Rattle.std.specs.Prelude.{◌==◌}
use Rattle.std.specs.List.{AllByRecursion}
use Rattle.std.proofs.lemmas.Bool.{ne_eqb, eq-eqb}
use Rattle.std.proofs.lemmas.List.{map-append}
use Rattle.search_model.specs.Live.{Change, nothing}
use Rattle.search_model.specs.Answer.{Asked, answer}
use Rattle.search_model.specs.Reply.{accepted, found}
use Rattle.script_form.specs.declared.config.Config.{Config}
use Rattle.run_laws.specs.Rows.{RequestRow, SearcherRow}
use Rattle.run_laws.specs.Calls.{Call, Told}
use Rattle.run_laws.specs.Lawful.{Shows, IsIdle, call_here, told_here, is_acquired_first}
use Rattle.run_laws.specs.Notes.{TellsNotes}
use Rattle.run_history.specs.Tellings.{Telling, Life, an_update, a_searcher, an_answer, wants, HasNumbers}
use Rattle.run_history.specs.Agreement.{RepliesIdly}
use Rattle.run_history.specs.Serial.{Serves, telling, idle, once_more, acquired_once_more, first_life, next_life, start_entries, update_entries, query_entries, opening_entries}
use Rattle.run_history.proofs.Requests.{idle_serves, update_serves, query_serves, opening_serves}
use Rattle.run_history.proofs.Starts.{starts}
use Rattle.client_runner.specs.Histories.{reading, limits}
use Rattle.client_runner.specs.Standings.{Standing, first, changed, acquired, opened, told_too, searchers_of, next_searcher}
use Rattle.client_runner.specs.Runs.{Runs, Follows, IsOfItsCall, TellsItsNotes, stand}

all_more : {A : Type 0} (P : A → Type 0) (xs : List A) (x : A) → AllByRecursion P xs → P x → AllByRecursion P (xs ++ x ∷ [])
all_more P [] x h p = (p, tt)
all_more P (y ∷ xs) x h p = (h.0, all_more P xs x h.1 p)

-- ---- the searchers, once the current one is acquired

other_rows : (g : ℕ) (rows : List SearcherRow) → AllByRecursion (λ s. s.generation < g) rows → map (acquired_once_more g) rows ≡ rows
other_rows g [] below = refl
other_rows g (s ∷ rows) below =
    let apart : (s.generation == g) ≡ false = ne_eqb s.generation g (λ e. absurd (omega (arith, e, below.0))) in
    ap₂ (λ (x : SearcherRow) xs. x ∷ xs) (ap (λ (b : Bool). record s { acquired = cond b (s.acquired + 1) s.acquired }) apart) (other_rows g rows below.1)

rows_once_more : (g : ℕ) (lives : List Life) → map (λ (s : Life). s.row) (map (once_more g) lives) ≡ map (acquired_once_more g) (map (λ (s : Life). s.row) lives)
rows_once_more g [] = refl
rows_once_more g (s ∷ lives) = ap (λ xs. acquired_once_more g s.row ∷ xs) (rows_once_more g lives)

current_once_more : (st : Standing) → acquired_once_more st.current.generation st.current ≡ (acquired st).current
current_once_more st =
    let same : (st.current.generation == st.current.generation) ≡ true = eq-eqb st.current.generation st.current.generation refl in
    ap (λ (b : Bool). record st.current { acquired = cond b (st.current.acquired + 1) st.current.acquired }) same

-- the rows of the searchers are those of the standing in which the current one is acquired
searchers_acquired : (st : Standing) (lives : List Life) → map (λ (s : Life). s.row) lives ≡ searchers_of st → AllByRecursion (λ s. s.generation < st.current.generation) st.earlier
    → map (λ (s : Life). s.row) (map (once_more st.current.generation) lives) ≡ searchers_of (acquired st)
searchers_acquired st lives same below =
    rows_once_more st.current.generation lives
    ∙ ap (map (acquired_once_more st.current.generation)) same
    ∙ map-append (acquired_once_more st.current.generation) st.earlier (st.current ∷ [])
    ∙ ap₂ (λ xs (x : SearcherRow). xs ++ x ∷ []) (other_rows st.current.generation st.earlier below) (current_once_more st)

-- ---- one request more

abbrev told_of : Call → RequestRow → Told
told_of call row = record { call = call; row = row }

-- the rows with one more
rows_more : (ts : List Telling) (rows : List RequestRow) (t : Telling) → map (λ (x : Telling). x.told.row) ts ≡ rows → map (λ (x : Telling). x.told.row) (ts ++ t ∷ []) ≡ rows ++ t.told.row ∷ []
rows_more ts rows t same = map-append (λ (x : Telling). x.told.row) ts (t ∷ []) ∙ ap (λ xs. xs ++ t.told.row ∷ []) same

module _ (c : Config) (call : Call) (st : Standing) (row : RequestRow) (here : told_here row ≡ call_here call) (notes : TellsNotes c (told_of call row)) where
  -- a request that did nothing
  pub idle_follows : IsIdle row → RepliesIdly c row (wants c call) → Follows c call st (told_too st row)
  idle_follows none reply h ts lives runs last = record {
    more = [];
    row = row;
    index = None;
    lives = lives;
    runs = record {
      serves = subst (λ e. Serves reading (limits c) c e (ts ++ idle (told_of call row) ∷ []) lives (stand st)) (sym (append-nil h))
          (idle_serves reading (limits c) c h ts lives (stand st) runs.serves (told_of call row) none reply);
      rows = rows_more ts st.rows (idle (told_of call row)) runs.rows;
      here = all_more IsOfItsCall ts (idle (told_of call row)) runs.here here;
      notes = all_more (TellsItsNotes c) ts (idle (told_of call row)) runs.notes notes;
      searchers = runs.searchers;
      earlier = runs.earlier;
    };
  }

  -- a change that was accepted
  pub update_follows : (change : Change) → wants c call ≡ Ok (an_update change) → HasNumbers row (Some st.place) None None → Shows c row accepted → Follows c call st (told_too (changed change st) row)
  update_follows change wanted numbers shown h ts lives runs last = record {
    more = update_entries call.client (call.line, change);
    row = row;
    index = Some (length h);
    lives = lives;
    runs = record {
      serves = update_serves reading (limits c) c h ts lives (stand st) runs.serves (told_of call row) (call.line, change) refl wanted numbers shown last;
      rows = rows_more ts st.rows (telling h (told_of call row)) runs.rows;
      here = all_more IsOfItsCall ts (telling h (told_of call row)) runs.here here;
      notes = all_more (TellsItsNotes c) ts (telling h (told_of call row)) runs.notes notes;
      searchers = runs.searchers;
      earlier = runs.earlier;
    };
  }

  -- a query that was answered
  pub query_follows : (asked : Asked) → wants c call ≡ Ok (an_answer asked) → HasNumbers row None (Some st.current.generation) (Some st.current.acquired) → Shows c row (found asked (answer st.served asked))
      → Follows c call st (told_too (acquired st) row)
  query_follows asked wanted numbers shown h ts lives runs last = record {
    more = query_entries (stand st) call.client;
    row = row;
    index = Some (length h);
    lives = map (once_more st.current.generation) lives;
    runs = record {
      serves = query_serves reading (limits c) c h ts lives (stand st) runs.serves (told_of call row) asked wanted numbers (inl shown) last;
      rows = rows_more ts st.rows (telling h (told_of call row)) runs.rows;
      here = all_more IsOfItsCall ts (telling h (told_of call row)) runs.here here;
      notes = all_more (TellsItsNotes c) ts (telling h (told_of call row)) runs.notes notes;
      searchers = searchers_acquired st lives runs.searchers runs.earlier;
      earlier = runs.earlier;
    };
  }

  other_slot : (g : ℕ) → (g + 1) % 2 ≢ g % 2
  other_slot g e = absurd (omega (arith, e))

  slot_below : (g : ℕ) → g % 2 < 2
  slot_below g = omega arith

  all_below : (g : ℕ) (rows : List SearcherRow) → AllByRecursion (λ s. s.generation < g) rows → AllByRecursion (λ s. s.generation < g + 1) rows
  all_below g [] below = tt
  all_below g (s ∷ rows) below = (omega (arith, below.0), all_below g rows below.1)

  -- a commit that opened a searcher, which was finished at once
  pub opening_follows : wants c call ≡ Ok a_searcher → HasNumbers row (Some st.place) (Some (st.current.generation + 1)) None → Shows c row accepted → 0 < c.max_warming → st.current.generation + 1 < 2 ^ 27
      → Follows c call st (told_too (opened st) row)
  opening_follows wanted numbers shown room within h ts lives runs last = record {
    more = opening_entries (stand st) call.client (call.line, nothing) ((st.current.generation + 1) % 2) st.docs;
    row = row;
    index = Some (length h);
    lives = map (once_more st.current.generation) lives ++ next_life h (stand st) ∷ [];
    runs = record {
      serves = opening_serves reading (limits c) c h ts lives (stand st) runs.serves (told_of call row) (call.line, nothing) ((st.current.generation + 1) % 2) st.docs
          refl wanted numbers shown last refl (other_slot st.current.generation) room (omega (arith, within)) (slot_below (st.current.generation + 1));
      rows = rows_more ts st.rows (telling h (told_of call row)) runs.rows;
      here = all_more IsOfItsCall ts (telling h (told_of call row)) runs.here here;
      notes = all_more (TellsItsNotes c) ts (telling h (told_of call row)) runs.notes notes;
      searchers = map-append (λ (s : Life). s.row) (map (once_more st.current.generation) lives) (next_life h (stand st) ∷ [])
          ∙ ap (λ xs. xs ++ next_searcher st ∷ []) (searchers_acquired st lives runs.searchers runs.earlier);
      earlier = all_more (λ s. s.generation < st.current.generation + 1) st.earlier (acquired st).current (all_below st.current.generation st.earlier runs.earlier) (omega arith);
    };
  }

-- ---- the beginning

-- before the first request: the first searcher was opened and registered, and its listeners may have acquired it
pub runs_first : (c : Config) → 0 < c.max_warming
    → Runs c (start_entries 1 (0, nothing) 1 [] (is_acquired_first c)) [] (first_life (is_acquired_first c) ∷ []) (first (is_acquired_first c))
runs_first c room = record {
  serves = starts ℕ reading (limits c) c 1 (0, nothing) 1 [] (record { first = refl; last = omega arith; room = room; slot_below = omega arith; none = refl });
  rows = refl;
  here = tt;
  notes = tt;
  searchers = refl;
  earlier = tt;
}
