-- What contracts say of what a caller pins.
use Rattle.std.specs.Prelude.{List, [], ◌∷◌}
use Rattle.registry_machine.specs.declared.entry.Entry.{Entry}
use Rattle.registry_machine.specs.declared.entry.Entry.TheVariants.{Acquire, NotYet, Release}
use Rattle.registry_machine.specs.Callers.{Prolongs}
use Rattle.view_cells.specs.Seats.{IsSameSeat}
use Rattle.searcher_table.specs.declared.pin.AcquireRefusal.{AcquireRefusal}
use Rattle.searcher_table.specs.declared.pin.AcquireRefusal.TheVariants.{NotYet as IsNotYet, Spent}
use Rattle.searcher_table.specs.Pins.{HasAcquired, CameTooEarly, IsSpent, HasReleased}
use Rattle.registry_core.specs.declared.caller.Caller.{Caller}
use Rattle.registry_core.specs.declared.pinned.Pinned.{Pinned}
use Rattle.registry_core.specs.declared.change.Change.{Change}
use Rattle.registry_core.specs.Callers as caller
use Rattle.registry_core.specs.Callers.{number_of}

module _ {D U W S X L : Type 0} where
  -- what the caller had seen as it pinned
  abbrev pub seen_of : Pinned D U W S X L → List (Entry (Change U) X L)
  seen_of p = p.pin.place.me.0.seen

  -- the caller has pinned what was current, by one entry of its own
  pub record HasPinned (s : Caller D U W S X L) (p : Pinned D U W S X L) : Type 0 where
    pub acquired : HasAcquired s.pass p.pin
    pub prolongs : Prolongs (number_of s) (caller.seen_of s) (seen_of p) (Acquire (number_of s) p.pin.generation p.pin.ticket ∷ [])
    pub seat : IsSameSeat s.lock p.lock

  -- nothing was current
  pub record WasTooEarly (s t : Caller D U W S X L) : Type 0 where
    pub early : CameTooEarly s.pass t.pass
    pub prolongs : Prolongs (number_of s) (caller.seen_of s) (caller.seen_of t) (NotYet (number_of s) ∷ [])
    pub seat : IsSameSeat s.lock t.lock

  abbrev pub IsNotPinned : Caller D U W S X L → Caller D U W S X L → AcquireRefusal → Type 0
  IsNotPinned s t IsNotYet = WasTooEarly s t
  IsNotPinned s t (Spent made) = IsSpent s.pass t.pass made × IsSameSeat s.lock t.lock

  -- the caller has released what it had pinned, by one entry of its own, with what was done through its door
  pub record HasUnpinned (deeds : D → List L) (p : Pinned D U W S X L) (t : Caller D U W S X L) : Type 0 where
    pub released : HasReleased deeds p.pin t.pass
    pub prolongs : Prolongs p.pin.caller (seen_of p) (caller.seen_of t) (Release p.pin.caller p.pin.generation (deeds p.pin.door) ∷ [])
    pub seat : IsSameSeat p.lock t.lock
