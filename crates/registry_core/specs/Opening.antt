-- What is done under the lock for an opening that its caller announced.
use Rattle.std.specs.Prelude.{◌≡◌, ℕ, List, Result, Ok, Err}
use Rattle.atomic_table.specs.Seated.{TableId}
use Rattle.registry_machine.specs.declared.entry.Entry.{Entry}
use Rattle.registry_machine.specs.declared.entry.Entry.TheVariants.{Open, TooMany, GenerationsSpent}
use Rattle.searcher_table.specs.declared.board.Call.TheVariants.{Open as ToOpen}
use Rattle.searcher_table.specs.declared.shown.Shown.{Ghosts}
use Rattle.searcher_table.specs.declared.registrar.Registrar.{Registrar}
use Rattle.searcher_table.specs.declared.tokens.Announced.{Announced}
use Rattle.searcher_table.specs.declared.tokens.Opening.{Opening}
use Rattle.searcher_table.specs.declared.tokens.OpenRefusal.{OpenRefusal}
use Rattle.searcher_table.specs.declared.tokens.OpenRefusal.TheVariants.{TooMany as AsTooMany, GenerationsSpent as AsSpent}
use Rattle.searcher_table.specs.Warming.{listed}
use Rattle.searcher_table.specs.Registrars.{plan_of, seen_of}
use Rattle.registry_core.specs.declared.change.Change.{Change}
use Rattle.registry_core.specs.declared.journal.Happened.{Happened}
use Rattle.registry_core.specs.declared.journal.Happened.TheVariants.{TooMany as WereTooMany, Spent}
use Rattle.registry_core.specs.declared.writer.Writer as writer
use Rattle.registry_core.specs.Journal.{updates_of}
use Rattle.registry_core.specs.Making.{IsNewDoor, AreMade}
use Rattle.registry_core.specs.Entering.{HasEntryAt}

-- what a refusal tells in the journal
abbrev pub refusal_told : {U : Type 0} → OpenRefusal → Happened U (List ℕ)
refusal_told (AsTooMany at gens) = WereTooMany (listed gens)
refusal_told (AsSpent at) = Spent

-- the place of its entry
abbrev pub refusal_place : OpenRefusal → ℕ
refusal_place (AsTooMany at gens) = at
refusal_place (AsSpent at) = at

module _ {D U W S X L : Type 0} where
  -- doors were made for the next opening
  abbrev pub AreNext : Ghosts D S X L → writer.Ghosts W D U S X L → Registrar D (Change U) S X L → List D → D → Type 0
  AreNext is w r doors own = AreMade is (plan_of r).setting.value (w.shows (updates_of (seen_of r))) (plan_of r).callers doors own

module _ {D U S X L : Type 0} {shows : Ghosts D S X L} where
  -- an opening that a caller announced at this table
  pub record IsCommit (table : TableId) (caller : ℕ) (a : Announced D (Change U) S X L shows) : Type 0 where
    pub table_is : a.place.table_id ≡ table
    pub call : a.asked.call ≡ ToOpen
    pub caller_is : a.caller ≡ caller

  -- the entry of a call that opened a generation, and of one that was refused
  abbrev pub opening_entry : Announced D (Change U) S X L shows → ℕ → ℕ → X → Entry (Change U) X L
  opening_entry a generation slot shown = Open a.caller a.asked.content generation slot shown

  abbrev pub refusal_entry : Announced D (Change U) S X L shows → OpenRefusal → Entry (Change U) X L
  refusal_entry a (AsTooMany at gens) = TooMany a.caller a.asked.content (listed gens)
  refusal_entry a (AsSpent at) = GenerationsSpent a.caller a.asked.content

  -- the call opened a generation, and its entry carries documents that are right after the updates before it; the own door shows them too
  pub record IsOpened (with : S) (Right : List U → X → Type 0) (table : TableId) (a : Announced D (Change U) S X L shows) (o : Opening D (Change U) S X L) (own : D) (log : List (Entry (Change U) X L)) : Type 0 where
    pub slot : ℕ
    pub shown : X
    pub us : List U
    pub placed : HasEntryAt a (opening_entry a o.generation slot shown) o.at us log
    pub right : Right us shown
    pub door : IsNewDoor shows with shown own
    pub seen : o.seat.me.0.seen ≡ log
    pub table_is : o.seat.table_id ≡ table

  -- it was refused, and has its entry
  abbrev pub IsRefused : Announced D (Change U) S X L shows → OpenRefusal → List (Entry (Change U) X L) → Type 0
  IsRefused a why log = (us : List U) × HasEntryAt a (refusal_entry a why) (refusal_place why) us log

  -- it was executed
  abbrev pub IsExecuted : S → (List U → X → Type 0) → TableId → Announced D (Change U) S X L shows → List (Entry (Change U) X L) → Result (Opening D (Change U) S X L × D) OpenRefusal → Type 0
  IsExecuted with Right table a log (Ok o) = IsOpened with Right table a o.0 o.1 log
  IsExecuted with Right table a log (Err why) = IsRefused a why log
