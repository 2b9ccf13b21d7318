-- What the functions of this crate show, by names, over any contents U, documents D and lists L.
use Rattle.std.specs.Prelude.{◌≡◌, ℕ, List, [], ◌∷◌, ◌++◌, map}
use Rattle.std.specs.List.Sorted.{IsPermutation}
use Rattle.search_model.specs.Answer.{Asked}
use Rattle.script_form.specs.declared.config.Config.{Config}
use Rattle.script_form.specs.declared.script.Line.{Line}
use Rattle.registry_machine.specs.declared.entry.Entry.{Entry}
use Rattle.registry_machine.specs.Machine.{Limits}
use Rattle.registry_machine.specs.Legal.{Legal}
use Rattle.run_laws.specs.Rows.{Output}
use Rattle.run_laws.specs.Calls.{Told}
use Rattle.run_laws.specs.Lawful.{Lawful, Ascends, is_acquired_first}
use Rattle.run_history.specs.Tellings.{Reading, Telling, Life}
use Rattle.run_history.specs.Agreement.{Agrees, OutputAgrees}
use Rattle.run_history.specs.Serial.{Stand, Serves, telling, idle, once_more, first_life, next_life, start_entries, update_entries, query_entries, opening_entries, stand_at_start, stand_after_update, stand_after_query, stand_after_opening, CanStart, IsIdleRow, IsUpdateRow, IsQueryRow, IsOpeningRow}

module _ (U D L : Type 0) where
  -- rows that agree with a legal history from generation 1 on are lawful, where lines ascend
  abbrev pub AgreeingIsLawful : Type 0
  AgreeingIsLawful =
      (r : Reading U D) (l : Limits) (c : Config) (script : List Line)
      (h : List (Entry U D L)) (o : Output) →
      l.first_generation ≡ 1 → l.max_warming ≡ c.max_warming → Legal l h →
      Ascends (map (λ x. x.number) script) → OutputAgrees r l c script h o → Lawful c script o

  -- rows that agree with a history agree with it in any order
  abbrev pub AgreeingIsInAnyOrder : Type 0
  AgreeingIsInAnyOrder =
      (r : Reading U D) (l : Limits) (c : Config) (h : List (Entry U D L)) (lives : List Life)
      (ts us : List Telling) → IsPermutation ts us →
      Agrees r l c h ts lives → Agrees r l c h us lives

  -- ---- a serial run, request by request

  -- the first searcher's entries are served with no rows yet
  abbrev pub StartServes : Type 0
  StartServes =
      (r : Reading U D) (l : Limits) (c : Config) (caller : ℕ) (u : U) (slot : ℕ) (d : D) →
      CanStart r l slot d →
      Serves {L = L} r l c (start_entries caller u slot d (is_acquired_first c)) []
      (first_life (is_acquired_first c) ∷ []) (stand_at_start slot (is_acquired_first c))

  -- a row that did nothing may be added
  abbrev pub IdleRowsServe : Type 0
  IdleRowsServe =
      (r : Reading U D) (l : Limits) (c : Config) (h : List (Entry U D L))
      (ts : List Telling) (lives : List Life) (s : Stand) (t : Told) →
      Serves r l c h ts lives s → IsIdleRow c t → Serves r l c h (ts ++ idle t ∷ []) lives s

  -- that of an update, or of a commit that opens nothing, adds one entry, at the next place
  abbrev pub UpdateRowsServe : Type 0
  UpdateRowsServe =
      (r : Reading U D) (l : Limits) (c : Config) (h : List (Entry U D L))
      (ts : List Telling) (lives : List Life) (s : Stand) (t : Told) (u : U) →
      Serves r l c h ts lives s → IsUpdateRow r c s ts t u →
      Serves r l c (h ++ update_entries t.call.client u) (ts ++ telling h t ∷ []) lives
      (stand_after_update s (r.change u))

  -- that of a query an acquire of the current generation, and its release
  abbrev pub QueryRowsServe : Type 0
  QueryRowsServe =
      (r : Reading U D) (l : Limits) (c : Config) (h : List (Entry U D L))
      (ts : List Telling) (lives : List Life) (s : Stand) (t : Told) (asked : Asked) →
      Serves r l c h ts lives s → IsQueryRow c s ts t asked →
      Serves r l c (h ++ query_entries s t.call.client) (ts ++ telling h t ∷ [])
      (map (once_more s.generation) lives) (stand_after_query s)

  -- and that of a commit that opens the five entries of its searcher
  abbrev pub OpeningRowsServe : Type 0
  OpeningRowsServe =
      (r : Reading U D) (l : Limits) (c : Config) (h : List (Entry U D L))
      (ts : List Telling) (lives : List Life) (s : Stand) (t : Told) (u : U) (slot : ℕ) (d : D) →
      Serves r l c h ts lives s → IsOpeningRow r l c s ts t u slot d →
      Serves r l c (h ++ opening_entries s t.call.client u slot d) (ts ++ telling h t ∷ [])
      (map (once_more s.generation) lives ++ next_life h s ∷ []) (stand_after_opening s slot)
