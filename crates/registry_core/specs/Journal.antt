-- What a history tells in the journal.
use Rattle.std.specs.Prelude.{◌≡◌, ℕ, List, [], ◌∷◌, ◌++◌, map, filter_map, Option, Some, None}
use Rattle.registry_machine.specs.declared.entry.Entry.{Entry}
use Rattle.registry_machine.specs.declared.entry.Entry.TheVariants.{Open, TooMany, GenerationsSpent, Update, Finish, Superseded, Acquire, NotYet, Release, Free}
use Rattle.searcher_table.specs.declared.gens.Gens.{Gens}
use Rattle.searcher_table.specs.Warming.{listed}
use Rattle.registry_core.specs.declared.change.Change.{Change}
use Rattle.registry_core.specs.declared.journal.Placed.{Placed}
use Rattle.registry_core.specs.declared.journal.Happened.{Happened}
use Rattle.registry_core.specs.declared.journal.Happened.TheVariants.{Opened, Spent, Written, Flushed, Registered}
use Rattle.registry_core.specs.declared.journal.Happened.TheVariants.{TooMany as WereTooMany, Superseded as WasSuperseded}

module _ {U : Type 0} where
  -- an update was accepted; or a commit opened no searcher
  abbrev pub written : Option U → Happened U (List ℕ)
  written (Some u) = Written u
  written None = Flushed

  -- one update more, where there is one
  abbrev pub with_update : List U → Option U → List U
  with_update us (Some u) = us ++ u ∷ []
  with_update us None = us

  -- what a caller did for a line
  abbrev pub by_caller : ℕ → Change U → Happened U (List ℕ) → Placed U (List ℕ)
  by_caller c change what = record { caller = Some c; line = Some change.line; what = what }

  abbrev pub by_nobody : Happened U (List ℕ) → Placed U (List ℕ)
  by_nobody what = record { caller = None; line = None; what = what }

  module _ {X L : Type 0} where
    -- what an entry of the history tells, where it has a place
    abbrev pub placed_of : Entry (Change U) X L → Option (Placed U (List ℕ))
    placed_of (Open c change g slot docs) = Some (by_caller c change (Opened g))
    placed_of (TooMany c change gs) = Some (by_caller c change (WereTooMany gs))
    placed_of (GenerationsSpent c change) = Some (by_caller c change Spent)
    placed_of (Update c change) = Some (by_caller c change (written change.update))
    placed_of (Finish g list) = Some (by_nobody (Registered g))
    placed_of (Superseded g by list) = Some (by_nobody (WasSuperseded g by))
    placed_of (Acquire c g k) = None
    placed_of (NotYet c) = None
    placed_of (Release c g list) = None
    placed_of (Free g) = None

    -- the journal of a history
    abbrev pub journal_of : List (Entry (Change U) X L) → List (Placed U (List ℕ))
    journal_of log = filter_map placed_of log

    -- the update that an entry tells
    abbrev pub update_of : Entry (Change U) X L → Option U
    update_of (Update c change) = change.update
    update_of _ = None

    -- the updates of a history, in their order
    abbrev pub updates_of : List (Entry (Change U) X L) → List U
    updates_of log = filter_map update_of log

    -- the documents that an opening shows
    abbrev pub docs_of : Entry (Change U) X L → Option X
    docs_of (Open c change g slot docs) = Some docs
    docs_of _ = None

    -- each opening shows documents that are right after the updates before it
    abbrev pub ShowRight : (List U → X → Type 0) → List (Entry (Change U) X L) → Type 0
    ShowRight Right log =
        (before rest : List (Entry (Change U) X L)) (e : Entry (Change U) X L) (docs : X) →
        log ≡ before ++ e ∷ rest → docs_of e ≡ Some docs → Right (updates_of before) docs

  -- ---- a journal as it is kept

  abbrev pub what_told : Happened U Gens → Happened U (List ℕ)
  what_told (Opened g) = Opened g
  what_told (WereTooMany gens) = WereTooMany (listed gens)
  what_told Spent = Spent
  what_told (Written u) = Written u
  what_told Flushed = Flushed
  what_told (Registered g) = Registered g
  what_told (WasSuperseded g by) = WasSuperseded g by

  abbrev pub entry_told : Placed U Gens → Placed U (List ℕ)
  entry_told p = record { caller = p.caller; line = p.line; what = what_told p.what }

  abbrev pub told : List (Placed U Gens) → List (Placed U (List ℕ))
  told js = map entry_told js
