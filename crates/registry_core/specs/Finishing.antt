-- What contracts say of the end of a warming.
use Rattle.std.specs.Prelude.{◌≡◌, ℕ, List, [], ◌∷◌, ◌++◌, count_by}
use Rattle.registry_machine.specs.declared.entry.Entry.{Entry}
use Rattle.registry_machine.specs.declared.entry.Entry.TheVariants.{Finish as HasFinish, Superseded as HasSuperseded}
use Rattle.registry_machine.specs.Entries.{has_place}
use Rattle.view_cells.specs.Seats.{own_list}
use Rattle.searcher_table.specs.Views.{StartsWith, HasNoPlaceSince}
use Rattle.searcher_table.specs.Registrars.{IsSameRegistrar}
use Rattle.registry_core.specs.declared.caller.Caller.{Caller}
use Rattle.registry_core.specs.declared.change.Change.{Change}
use Rattle.registry_core.specs.declared.ended.Finish.{Finish}
use Rattle.registry_core.specs.declared.finish.Finished.{Finished}
use Rattle.registry_core.specs.declared.finish.Finished.TheVariants.{Registered, Superseded}
use Rattle.registry_core.specs.declared.fresh.Fresh.{Fresh}
use Rattle.registry_core.specs.declared.locked.Locked.{Locked}
use Rattle.registry_core.specs.Freshness as fresh
use Rattle.registry_core.specs.Callers.{seen_of, HasProlonged}

module _ {D U S X L : Type 0} where
  -- what is kept of the end of a warming
  abbrev pub finish_of : Fresh D U S X L → Finish
  finish_of f = record { generation = fresh.generation_of f; from = f.from }

  -- the entry of an end, with this list, and its place
  abbrev pub end_of : List L → Fresh D U S X L → Finished → Entry (Change U) X L
  end_of list f (Registered at) = HasFinish (fresh.generation_of f) list
  end_of list f (Superseded by at) = HasSuperseded (fresh.generation_of f) by list

abbrev pub place_of : Finished → ℕ
place_of (Registered at) = at
place_of (Superseded by at) = at

module _ {U X L : Type 0} where
  -- the entry stands at this place, past what was seen, and none with a place behind it
  pub record IsEnd (e : Entry (Change U) X L) (at : ℕ) (seen log : List (Entry (Change U) X L)) : Type 0 where
    pub before : List (Entry (Change U) X L)
    pub past : StartsWith before seen
    pub place : count_by has_place before ≡ at
    pub stands : HasNoPlaceSince log (before ++ e ∷ [])

module _ {D U W S X L : Type 0} where
  -- the registrar is one table's, as many updates may be accepted, and one more warming has ended, by this seat's caller
  pub record HasEndedOne (l m : Locked D U W S X L) (seat : ℕ) (finish : Finish) : Type 0 where
    pub registrar : IsSameRegistrar l.registrar m.registrar
    pub most : m.max_updates ≡ l.max_updates
    pub finishes : m.finishes.items ≡ l.finishes.items ++ record { seat = seat; finish = finish } ∷ []

  -- the end of the warming has its entry, with the list of the own door, past all that the caller had seen; the caller has no entry more, and the last of its finishes is this one
  pub record HasFinished (deeds : D → List L) (s t : Caller D U W S X L) (f : Fresh D U S X L) (r : Finished) : Type 0 where
    pub prolonged : HasProlonged s t []
    pub before : List (Entry (Change U) X L)
    pub past : StartsWith before (seen_of s)
    pub place : count_by has_place before ≡ place_of r
    pub stands : StartsWith (seen_of t) (before ++ end_of (deeds f.own) f r ∷ [])
    pub finishes : own_list t.lock ≡ own_list s.lock ++ finish_of f ∷ []
