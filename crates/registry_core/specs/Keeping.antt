-- What lies under the lock, and when it fits what the seats name.
use Rattle.std.specs.Prelude.{◌≡◌, ◌+◌, ◌≤◌, length, filter_map, Option, None, vec_capacity}
use Rattle.registry_machine.specs.Entries.{ends}
use Rattle.registry_machine.specs.Legal.{Legal}
use Rattle.searcher_table.specs.declared.pass.Pass.{Pass}
use Rattle.searcher_table.specs.declared.pin.Pin.{Pin}
use Rattle.searcher_table.specs.Words.{limits}
use Rattle.searcher_table.specs.Passes as pass
use Rattle.searcher_table.specs.Pins as pin
use Rattle.searcher_table.specs.Registrars.{table_of, plan_of, seen_of}
use Rattle.searcher_table.specs.Openings.{warming_of}
use Rattle.registry_core.specs.declared.change.Change.{Change}
use Rattle.registry_core.specs.declared.locked.Locked.{Locked}
use Rattle.registry_core.specs.declared.locked.Terms.{Terms}
use Rattle.registry_core.specs.declared.writer.Writer.{Ghosts}
use Rattle.registry_core.specs.Finishes.{generations}
use Rattle.registry_core.specs.Journal.{told, journal_of, updates_of, with_update, ShowRight}

module _ {D U W S X L : Type 0} where
  -- doors are made as the table wants them, and for its callers
  pub record IsSet (writer : Ghosts W D U S X L) (l : Locked D U W S X L) : Type 0 where
    pub setting : writer.setting l.writer ≡ (plan_of l.registrar).setting.value
    pub callers : l.callers ≡ (plan_of l.registrar).callers

  -- what is warming is counted, and the journal has room for its ends
  pub record HasSpare (l : Locked D U W S X L) : Type 0 where
    pub warming : l.warming ≡ length (warming_of l.registrar)
    pub room : length l.journal.items + l.warming ≤ vec_capacity l.journal

  -- the finishes are those of the history, in their order, and there is room for those of what is warming
  pub record HasEnds (l : Locked D U W S X L) : Type 0 where
    pub are : generations l.finishes.items ≡ filter_map ends (seen_of l.registrar)
    pub space : length l.finishes.items + l.warming ≤ vec_capacity l.finishes

  -- the history is legal, the journal is what it tells, the writer has taken its updates and maybe one more, and they are counted and not too many; and each opening shows what is right
  pub record IsAhead (writer : Ghosts W D U S X L) (more : Option U) (l : Locked D U W S X L) : Type 0 where
    pub legal : Legal (limits (plan_of l.registrar)) (seen_of l.registrar)
    pub journal_is : told l.journal.items ≡ journal_of (seen_of l.registrar)
    pub written : writer.taken l.writer ≡ with_update (updates_of (seen_of l.registrar)) more
    pub counted : l.accepted ≡ length (writer.taken l.writer)
    pub few : l.accepted ≤ l.max_updates
    pub set : IsSet writer l
    pub spare : HasSpare l
    pub ended : HasEnds l
    pub shown : ShowRight writer.shows (seen_of l.registrar)

  -- and none more
  abbrev pub IsKept : Ghosts W D U S X L → Locked D U W S X L → Type 0
  IsKept writer l = IsAhead writer None l

  -- the registrar is of the table that is named, and the most updates are those named
  pub record IsNamed (terms : Terms D U S X L) (l : Locked D U W S X L) : Type 0 where
    pub table : table_of l.registrar ≡ table_of terms.registrar.value
    pub plan : plan_of l.registrar ≡ plan_of terms.registrar.value
    pub most : l.max_updates ≡ terms.max_updates

  pub record FitsTerms (writer : Ghosts W D U S X L) (terms : Terms D U S X L) (l : Locked D U W S X L) : Type 0 where
    pub named : IsNamed terms l
    pub kept : IsKept writer l

module _ {D U S X L : Type 0} where
  -- the pass is at the table that is named
  pub record IsTableOf (terms : Terms D U S X L) (t : Pass D (Change U) S X L) : Type 0 where
    pub table : pass.table_of t ≡ table_of terms.registrar.value
    pub plan : pass.plan_of t ≡ plan_of terms.registrar.value

  -- so is the pass of the pin
  pub record IsPinnedAt (terms : Terms D U S X L) (t : Pin D (Change U) S X L) : Type 0 where
    pub table : pin.table_of t ≡ table_of terms.registrar.value
    pub plan : pin.plan_of t ≡ plan_of terms.registrar.value
