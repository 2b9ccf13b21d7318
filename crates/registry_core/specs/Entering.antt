-- What is done under the lock for a call that its caller announced.
use Rattle.std.specs.Prelude.{◌≡◌, ℕ, ◌<◌, List, [], ◌∷◌, ◌++◌, length, count_by, Option, IsSome}
use Rattle.atomic_table.specs.Seated.{TableId}
use Rattle.registry_machine.specs.declared.entry.Entry.{Entry}
use Rattle.registry_machine.specs.declared.entry.Entry.TheVariants.{Update}
use Rattle.registry_machine.specs.Entries.{has_place}
use Rattle.view_cells.specs.declared.seat.Seat.{Seat}
use Rattle.view_cells.specs.Seats.{IsSameSeat, IsIdle, own_list}
use Rattle.searcher_table.specs.declared.board.Call.TheVariants.{Update as ToUpdate}
use Rattle.searcher_table.specs.declared.shown.Shown.{Ghosts}
use Rattle.searcher_table.specs.declared.tokens.Announced.{Announced}
use Rattle.searcher_table.specs.Views.{StartsWith}
use Rattle.searcher_table.specs.Passes.{seen_before}
use Rattle.searcher_table.specs.Registrars.{IsSameRegistrar}
use Rattle.registry_core.specs.declared.caller.UpdateRefusal.{UpdateRefusal}
use Rattle.registry_core.specs.declared.caller.UpdateRefusal.TheVariants.{Full, NoMemory}
use Rattle.registry_core.specs.declared.change.Change.{Change}
use Rattle.registry_core.specs.declared.locked.Locked.{Locked}
use Rattle.registry_core.specs.Journal.{updates_of}

module _ {D U W S X L : Type 0} where
  -- the registrar is one table's, as many updates may be accepted, and no warming has ended
  pub record IsSameLocked (l m : Locked D U W S X L) : Type 0 where
    pub registrar : IsSameRegistrar l.registrar m.registrar
    pub most : m.max_updates ≡ l.max_updates
    pub finishes : m.finishes.items ≡ l.finishes.items

  -- the registrar has done nothing
  pub record IsBeside (l m : Locked D U W S X L) : Type 0 where
    pub registrar : m.registrar ≡ l.registrar
    pub most : m.max_updates ≡ l.max_updates
    pub warming : m.warming ≡ l.warming
    pub finishes : m.finishes.items ≡ l.finishes.items

-- the same seat with its list, which holds nothing
pub record IsBack {T W E : Type 0} (s t : Seat T W E) : Type 0 where
  pub seat : IsSameSeat s t
  pub idle : IsIdle t
  pub own : own_list t ≡ own_list s

module _ {U X L : Type 0} where
  -- why a change was refused: it is an update, and in this history as many were accepted as may be; or memory was wanting
  abbrev pub IsCause : ℕ → List (Entry (Change U) X L) → Option U → UpdateRefusal → Type 0
  IsCause most log update (Full updates) = (updates ≡ most) × (length (updates_of log) ≡ most) × IsSome update
  IsCause most log update NoMemory = Unit {0}

module _ {D U S X L : Type 0} {shows : Ghosts D S X L} where
  -- a change that a caller announced at this table
  pub record IsChange (table : TableId) (caller : ℕ) (a : Announced D (Change U) S X L shows) : Type 0 where
    pub table_is : a.place.table_id ≡ table
    pub call : a.asked.call ≡ ToUpdate
    pub caller_is : a.caller ≡ caller

  -- the call has this entry at this place, at the history's end, behind what its caller had seen; these updates were accepted before
  pub record HasEntryAt (a : Announced D (Change U) S X L shows) (e : Entry (Change U) X L) (at : ℕ) (us : List U) (log : List (Entry (Change U) X L)) : Type 0 where
    pub before : List (Entry (Change U) X L)
    pub covers : StartsWith before (seen_before a)
    pub updates : updates_of before ≡ us
    pub place : count_by has_place before ≡ at
    pub entry : log ≡ before ++ e ∷ []

  -- the entry is that of a change
  abbrev pub HasPlace : Announced D (Change U) S X L shows → ℕ → List U → List (Entry (Change U) X L) → Type 0
  HasPlace a at us log = HasEntryAt a (Update a.caller a.asked.content) at us log

  -- and where it is an update, fewer were than may be
  pub record IsAccepted (a : Announced D (Change U) S X L shows) (at most : ℕ) (log : List (Entry (Change U) X L)) : Type 0 where
    pub us : List U
    pub placed : HasPlace a at us log
    pub room : IsSome a.asked.content.update → length us < most
