-- What contracts say of callers.
use Rattle.std.specs.Prelude.{◌≡◌, ℕ, ◌<◌, List, [], ◌∷◌, ◌++◌, length, count_by, Option, IsSome}
use Rattle.registry_machine.specs.declared.entry.Entry.{Entry}
use Rattle.registry_machine.specs.declared.entry.Entry.TheVariants.{Update}
use Rattle.registry_machine.specs.Entries.{has_place}
use Rattle.registry_machine.specs.Callers.{Prolongs}
use Rattle.view_cells.specs.Seats.{view_of, IsSameSeat}
use Rattle.searcher_table.specs.Views.{StartsWith}
use Rattle.searcher_table.specs.Passes as pass
use Rattle.searcher_table.specs.Passes.{IsSamePass, IsSound}
use Rattle.registry_core.specs.declared.caller.Caller.{Caller}
use Rattle.registry_core.specs.declared.caller.UpdateRefusal.{UpdateRefusal}
use Rattle.registry_core.specs.declared.caller.UpdateRefusal.TheVariants.{Full, NoMemory}
use Rattle.registry_core.specs.declared.change.Change.{Change}
use Rattle.registry_core.specs.Journal.{updates_of}

module _ {D U W S X L : Type 0} where
  -- the caller's number
  abbrev pub number_of : Caller D U W S X L → ℕ
  number_of t = t.pass.caller

  -- the beginning of the core's history that the caller has seen
  abbrev pub seen_of : Caller D U W S X L → List (Entry (Change U) X L)
  seen_of t = pass.seen_of t.pass

  -- its own entries in it
  abbrev pub mine_of : Caller D U W S X L → List (Entry (Change U) X L)
  mine_of t = pass.mine_of t.pass

  -- how many updates its core accepts
  abbrev pub most_of : Caller D U W S X L → ℕ
  most_of t = (view_of t.lock).max_updates

  -- one caller, at one core
  pub record IsSameCaller (s t : Caller D U W S X L) : Type 0 where
    pub pass : IsSamePass s.pass t.pass
    pub seat : IsSameSeat s.lock t.lock

  -- what the caller has seen prolongs what it had seen, in a legal history, by these entries of its own
  pub record HasProlonged (s t : Caller D U W S X L) (own : List (Entry (Change U) X L)) : Type 0 where
    pub caller : IsSameCaller s t
    pub sound : IsSound t.pass
    pub prolongs : Prolongs (number_of s) (seen_of s) (seen_of t) own

  -- by this entry alone, which stands at this place, past what the caller had seen
  pub record HasEntered (s t : Caller D U W S X L) (e : Entry (Change U) X L) (at : ℕ) : Type 0 where
    pub prolonged : HasProlonged s t (e ∷ [])
    pub before : List (Entry (Change U) X L)
    pub past : StartsWith before (seen_of s)
    pub place : count_by has_place before ≡ at
    pub stands : StartsWith (seen_of t) (before ++ e ∷ [])

  -- the change has its entry, and where it is an update, fewer than may be were accepted before
  pub record HasChanged (s t : Caller D U W S X L) (change : Change U) (at : ℕ) : Type 0 where
    pub entered : HasEntered s t (Update (number_of s) change) at
    pub room : IsSome change.update → length (updates_of entered.before) < most_of s

  -- so many updates were accepted in what the caller has then seen, which is the most; it has no entry more
  pub record IsFull (s t : Caller D U W S X L) (updates : ℕ) : Type 0 where
    pub prolonged : HasProlonged s t []
    pub told : updates ≡ most_of s
    pub before : List (Entry (Change U) X L)
    pub stands : StartsWith (seen_of t) before
    pub accepted : length (updates_of before) ≡ updates

  abbrev pub IsNotUpdated : Caller D U W S X L → Caller D U W S X L → UpdateRefusal → Type 0
  IsNotUpdated s t (Full updates) = IsFull s t updates
  IsNotUpdated s t NoMemory = HasProlonged s t []

  -- only an update is refused as Full
  abbrev pub IsNotChanged : Caller D U W S X L → Caller D U W S X L → Option U → UpdateRefusal → Type 0
  IsNotChanged s t update (Full updates) = IsFull s t updates × IsSome update
  IsNotChanged s t update NoMemory = HasProlonged s t []

  -- ---- by single steps

  -- two callers are at one core
  abbrev pub AreTogether : Caller D U W S X L → Caller D U W S X L → Type 0
  AreTogether s other = pass.table_of other.pass ≡ pass.table_of s.pass

  -- the caller has seen what the other had seen, and has no entry more
  pub record HasMet (s other t : Caller D U W S X L) : Type 0 where
    pub prolonged : HasProlonged s t []
    pub covers : StartsWith (seen_of t) (seen_of other)

  -- the caller has made no step, and knows what it knew
  pub record IsUnchanged (s t : Caller D U W S X L) : Type 0 where
    pub caller : IsSameCaller s t
    pub seen : seen_of t ≡ seen_of s
    pub mine : mine_of t ≡ mine_of s
