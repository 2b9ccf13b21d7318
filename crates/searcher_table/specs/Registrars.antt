-- What contracts say of a registrar.
use Rattle.std.specs.Prelude.{◌≡◌, ℕ, Option, List, [], ◌∷◌, ◌++◌, count_by}
use Rattle.std.specs.Option.{option_map}
use Rattle.std.specs.Arc.{arc_value}
use Rattle.atomic_table.specs.Seated.{TableId}
use Rattle.registry_machine.specs.declared.entry.Entry.{Entry}
use Rattle.registry_machine.specs.declared.entry.Entry.TheVariants.{Update}
use Rattle.registry_machine.specs.Entries.{has_place}
use Rattle.registry_machine.specs.Legal.{IsAllowed, Legal, state_of}
use Rattle.searcher_table.specs.declared.board.Call.TheVariants.{Update as ToUpdate}
use Rattle.searcher_table.specs.declared.board.Plan.{Plan}
use Rattle.searcher_table.specs.declared.shown.Shown.{Ghosts}
use Rattle.searcher_table.specs.declared.board.Own.{Own}
use Rattle.searcher_table.specs.declared.pass.Pass.{Pass}
use Rattle.searcher_table.specs.declared.registrar.Registrar.{Registrar}
use Rattle.searcher_table.specs.declared.tokens.Announced.{Announced}
use Rattle.searcher_table.specs.declared.tokens.Sighting.{Sighting}
use Rattle.searcher_table.specs.Words.{limits}
use Rattle.searcher_table.specs.Views.{StartsWith, HasNoPlaceSince}
use Rattle.searcher_table.specs.Steps.{answer_of}
use Rattle.searcher_table.specs.Passes.{mine_of, seen_before, sighted, sighted_at}

module _ {D U W X L : Type 0} where
  -- the table that the registrar is at
  abbrev pub table_of : Registrar D U W X L → TableId
  table_of r = r.place.table_id

  -- what that table was made with
  abbrev pub plan_of : Registrar D U W X L → Plan W
  plan_of r = (arc_value r.table).shared.key

  -- the beginning of the table's history that the registrar has seen
  abbrev pub seen_of : Registrar D U W X L → List (Entry U X L)
  seen_of r = r.place.me.0.seen

  -- how many entries with a place stand in it
  abbrev pub places_of : Registrar D U W X L → ℕ
  places_of r = count_by has_place (seen_of r)

  -- the passes that it took back, each with its caller's entries
  abbrev pub back_of : Registrar D U W X L → List (Own U X L)
  back_of r = r.place.me.0.back

  -- what a pass leaves
  abbrev pub own_of : Pass D U W X L → Own U X L
  own_of t = record { caller = t.caller; mine = mine_of t }

  -- one table's registrar
  pub record IsSameRegistrar (s t : Registrar D U W X L) : Type 0 where
    pub table : table_of t ≡ table_of s
    pub plan : plan_of t ≡ plan_of s

  -- what was seen is legal
  abbrev pub IsSound : Registrar D U W X L → Type 0
  IsSound r = Legal (limits (plan_of r)) (seen_of r)

  -- it has made no step, and knows what it knew
  pub record IsUnchanged (s t : Registrar D U W X L) : Type 0 where
    pub registrar : IsSameRegistrar s t
    pub seen : seen_of t ≡ seen_of s
    pub back : back_of t ≡ back_of s

  -- what it has seen goes on from what it had seen, by no entry with a place
  pub record HasLooked (s t : Registrar D U W X L) : Type 0 where
    pub registrar : IsSameRegistrar s t
    pub legal : IsSound t
    pub back : back_of t ≡ back_of s
    pub seen : HasNoPlaceSince (seen_of t) (seen_of s)

  -- the generation that is current after what it has seen, with the number of its acquires
  abbrev pub current_of : Registrar D U W X L → Option (ℕ × ℕ)
  current_of r = let s = state_of (limits (plan_of r)) (seen_of r) in option_map (λ g. (g, s.acquired g)) s.current

  -- it has one pass more that it took back
  pub record HasTakenBack (s t : Registrar D U W X L) (gone : Pass D U W X L) : Type 0 where
    pub registrar : IsSameRegistrar s t
    pub seen : seen_of t ≡ seen_of s
    pub back : back_of t ≡ back_of s ++ own_of gone ∷ []

module _ {D U W X L : Type 0} {shows : Ghosts D W X L} where
  -- the sighting carries what it has seen
  pub record IsSightingOf (t : Registrar D U W X L) (note : Sighting D U W X L shows) : Type 0 where
    pub table : sighted_at note ≡ table_of t
    pub seen : sighted note ≡ seen_of t

  -- it has looked, and what it has seen covers what the sighting carries
  pub record HasMet (s t : Registrar D U W X L) (note : Sighting D U W X L shows) : Type 0 where
    pub looked : HasLooked s t
    pub covers : StartsWith (seen_of t) (sighted note)

  -- a call that opens nothing: an update, or an opening that is refused
  abbrev pub answer_to : Registrar D U W X L → Announced D U W X L shows → Entry U X L
  answer_to r a = answer_of a.asked.call (plan_of r) (seen_of r) (record { caller = a.caller; asked = a.asked })

  -- its entry may come next
  abbrev pub MayAnswer : Registrar D U W X L → Announced D U W X L shows → Type 0
  MayAnswer r a = IsAllowed (limits (plan_of r)) (state_of (limits (plan_of r)) (seen_of r)) (answer_to r a)

  -- the call is an update that was announced at this table
  pub record IsUpdateHere (r : Registrar D U W X L) (a : Announced D U W X L shows) : Type 0 where
    pub table : a.place.table_id ≡ table_of r
    pub call : a.asked.call ≡ ToUpdate

  -- this entry of the call comes last, behind a history that covers what the registrar and the caller had seen
  pub record HasEntry (s t : Registrar D U W X L) (a : Announced D U W X L shows) (e : Entry U X L) : Type 0 where
    pub registrar : IsSameRegistrar s t
    pub legal : IsSound t
    pub back : back_of t ≡ back_of s
    pub before : List (Entry U X L)
    pub seen : HasNoPlaceSince before (seen_of s)
    pub covers : StartsWith before (seen_before a)
    pub entry : seen_of t ≡ before ++ e ∷ []

  -- the update was executed
  abbrev pub HasUpdated : Registrar D U W X L → Registrar D U W X L → Announced D U W X L shows → Type 0
  HasUpdated s t a = HasEntry s t a (Update a.caller a.asked.content)
