-- What contracts say of passes, and of what they hand out.
use Rattle.std.specs.Prelude.{◌≡◌, ℕ, ◌+◌, List, [], Option, Some, None}
use Rattle.std.specs.Arc.{arc_value}
use Rattle.atomic_table.specs.Seated.{TableId}
use Rattle.registry_machine.specs.declared.entry.Entry.{Entry}
use Rattle.registry_machine.specs.Legal.{Legal}
use Rattle.registry_machine.specs.Callers.{mine, Prolongs}
use Rattle.searcher_table.specs.declared.board.Asked.{Asked}
use Rattle.searcher_table.specs.declared.board.Plan.{Plan}
use Rattle.searcher_table.specs.declared.shown.Shown.{Ghosts}
use Rattle.searcher_table.specs.declared.pass.Pass.{Pass}
use Rattle.searcher_table.specs.declared.tokens.Announced.{Announced}
use Rattle.searcher_table.specs.declared.tokens.Sighting.{Sighting}
use Rattle.searcher_table.specs.Words.{limits}
use Rattle.searcher_table.specs.Views.{StartsWith, GoesOn}

module _ {D U W X L : Type 0} where
  -- ---- what a pass knows

  -- the table that the pass is at
  abbrev pub table_of : Pass D U W X L → TableId
  table_of t = t.place.table_id

  -- what that table was made with
  abbrev pub plan_of : Pass D U W X L → Plan W
  plan_of t = (arc_value t.table).shared.key

  -- the beginning of the table's history that the pass has seen
  abbrev pub seen_of : Pass D U W X L → List (Entry U X L)
  seen_of t = t.place.me.0.seen

  -- its caller's entries in it
  abbrev pub mine_of : Pass D U W X L → List (Entry U X L)
  mine_of t = t.place.me.0.mine

  -- what is announced and has no entry in it
  abbrev pub announced_of : Pass D U W X L → Option (Asked U)
  announced_of t = t.place.me.0.announced

  -- the pass's own steps on words
  abbrev pub steps_of : Pass D U W X L → ℕ
  steps_of t = t.place.me.0.steps

  -- what was seen is legal, and the caller's entries in it are its own
  pub record IsSound (t : Pass D U W X L) : Type 0 where
    pub legal : Legal (limits (plan_of t)) (seen_of t)
    pub own : mine_of t ≡ mine t.caller (seen_of t)

  -- ---- what a call does to a pass

  -- one caller's pass at one table
  pub record IsSamePass (s t : Pass D U W X L) : Type 0 where
    pub table : table_of t ≡ table_of s
    pub plan : plan_of t ≡ plan_of s
    pub caller : t.caller ≡ s.caller

  -- the pass has made no step, and knows what it knew
  pub record IsUnchanged (s t : Pass D U W X L) : Type 0 where
    pub pass : IsSamePass s t
    pub seen : seen_of t ≡ seen_of s
    pub mine : mine_of t ≡ mine_of s
    pub announced : announced_of t ≡ announced_of s
    pub steps : steps_of t ≡ steps_of s

  -- after one step what is seen prolongs what was seen by these entries of the caller
  pub record HasSeenMore (s t : Pass D U W X L) (own : List (Entry U X L)) : Type 0 where
    pub pass : IsSamePass s t
    pub sound : IsSound t
    pub prolongs : Prolongs s.caller (seen_of s) (seen_of t) own
    pub steps : steps_of t ≡ steps_of s + 1

  -- the pass has looked: if what it had announced was executed meanwhile, the caller has its entry, and no other
  pub record HasLooked (s t : Pass D U W X L) : Type 0 where
    pub own : List (Entry U X L)
    pub more : HasSeenMore s t own
    pub calls : GoesOn s.caller (mine_of s) (announced_of s) (mine_of t) (announced_of t)

  -- the pass has announced this, and the caller has no entry more
  pub record HasAnnounced (s t : Pass D U W X L) (asked : Asked U) : Type 0 where
    pub more : HasSeenMore s t []
    pub announced : announced_of t ≡ Some asked

  -- nothing is announced any more, and the caller has no entry more
  pub record HasWithdrawn (s t : Pass D U W X L) : Type 0 where
    pub more : HasSeenMore s t []
    pub announced : announced_of t ≡ None

module _ {D U W X L : Type 0} {shows : Ghosts D W X L} where
  -- ---- what is handed out

  -- what an announced call's caller had seen as it announced it
  abbrev pub seen_before : Announced D U W X L shows → List (Entry U X L)
  seen_before a = a.place.me.0.seen

  -- the pass's caller announced this, having seen so much
  pub record IsAnnouncedBy (t : Pass D U W X L) (call : Asked U) (a : Announced D U W X L shows) : Type 0 where
    pub table : a.place.table_id ≡ table_of t
    pub caller : a.caller ≡ t.caller
    pub asked : a.asked ≡ call
    pub seen : seen_before a ≡ seen_of t

  -- the call is one that this caller announced at this table
  pub record IsOwnCall (t : Pass D U W X L) (a : Announced D U W X L shows) : Type 0 where
    pub table : a.place.table_id ≡ table_of t
    pub caller : a.caller ≡ t.caller

  -- what a sighting carries
  abbrev pub sighted : Sighting D U W X L shows → List (Entry U X L)
  sighted note = note.place.me.0.seen

  -- the table at which it was made
  abbrev pub sighted_at : Sighting D U W X L shows → TableId
  sighted_at note = note.place.table_id

  -- the sighting carries what the pass has seen
  pub record IsSightingOf (t : Pass D U W X L) (note : Sighting D U W X L shows) : Type 0 where
    pub table : sighted_at note ≡ table_of t
    pub seen : sighted note ≡ seen_of t

  -- the pass has looked, and what it has seen covers what the sighting carries
  pub record HasMet (s t : Pass D U W X L) (note : Sighting D U W X L shows) : Type 0 where
    pub looked : HasLooked s t
    pub covers : StartsWith (seen_of t) (sighted note)
