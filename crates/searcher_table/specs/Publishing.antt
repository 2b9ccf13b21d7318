-- What contracts say of the end of a warming.
use Rattle.std.specs.Prelude.{◌≡◌, ◌≢◌, ◌⊎◌, ℕ, List, [], ◌∷◌, ◌++◌, Option, Some, None}
use Rattle.std.specs.Option.{option_map}
use Rattle.registry_machine.specs.declared.entry.Entry.{Entry}
use Rattle.registry_machine.specs.declared.entry.Entry.TheVariants.{Finish, Superseded, Free}
use Rattle.registry_machine.specs.Legal.{Legal, state_of}
use Rattle.searcher_table.specs.declared.board.Plan.{Plan}
use Rattle.searcher_table.specs.declared.board.Known.{Known}
use Rattle.searcher_table.specs.declared.board.Task.TheVariants.{Idle}
use Rattle.searcher_table.specs.declared.registrar.Registrar.{Registrar}
use Rattle.searcher_table.specs.declared.tokens.Opening.{Opening}
use Rattle.searcher_table.specs.declared.tokens.Published.{Published}
use Rattle.searcher_table.specs.declared.tokens.Published.TheVariants.{Registered as AsRegistered, Superseded as AsSuperseded}
use Rattle.searcher_table.specs.Words.{limits}
use Rattle.searcher_table.specs.Views.{StartsWith, HasNoPlaceSince}
use Rattle.searcher_table.specs.Rule.{released}
use Rattle.searcher_table.specs.Warming.{current_in}
use Rattle.searcher_table.specs.Claims.{IsOpener}
use Rattle.searcher_table.specs.Registrars.{plan_of, seen_of, places_of, back_of, IsSameRegistrar, IsSound}

module _ {U X L : Type 0} where
  -- behind this history the generation's slot was freed
  pub record HasFreedLast (log now : List (Entry U X L)) (g : ℕ) : Type 0 where
    pub before : List (Entry U X L)
    pub seen : HasNoPlaceSince before log
    pub last : now ≡ before ++ Free g ∷ []

  -- by the time of this history, as the acquires of the generation were told, it had been released as often, and its slot was freed; or it had not, and nothing was done
  pub record IsSettledAt (log now : List (Entry U X L)) (g total : ℕ) : Type 0 where
    pub ended : ((released log g ≢ total) × (now ≡ log)) ⊎ ((released log g ≡ total) × HasFreedLast log now g)

module _ {W U X L : Type 0} where
  -- the acquires of the generation were told, and what was drained was freed
  pub record HasSettled (p : Plan W) (k n : Known W U X L) (g total : ℕ) : Type 0 where
    pub opener : IsOpener p n Idle
    pub legal : Legal (limits p) n.seen
    pub back : n.back ≡ k.back
    pub hand : n.hand ≡ None
    pub log : List (Entry U X L)
    pub seen : HasNoPlaceSince log k.seen
    pub since : HasNoPlaceSince n.seen k.seen
    pub settled : IsSettledAt log n.seen g total

module _ {D U W X L : Type 0} where
  -- this entry stands behind a history that covers what the registrar and the opening had seen, and is followed by none with a place
  pub record HasEnded (s t : Registrar D U W X L) (o : Opening D U W X L) (e : Entry U X L) : Type 0 where
    pub registrar : IsSameRegistrar s t
    pub legal : IsSound t
    pub back : back_of t ≡ back_of s
    pub before : List (Entry U X L)
    pub seen : HasNoPlaceSince before (seen_of s)
    pub covers : StartsWith before o.seat.me.0.seen
    pub entry : HasNoPlaceSince (seen_of t) (before ++ e ∷ [])

  -- the generation's acquires so far, where it was current before the entry
  abbrev pub current_before : Registrar D U W X L → List (Entry U X L) → Option (ℕ × ℕ)
  current_before r log = let s = state_of (limits (plan_of r)) log in option_map (λ g. (g, s.acquired g)) s.current

  -- what was replaced was settled behind the entry; it is none where nothing was current
  abbrev pub SettlesOld : Registrar D U W X L → List (Entry U X L) → Option (ℕ × ℕ) → Type 0
  SettlesOld t since None = Unit {0}
  SettlesOld t since (Some old) = (log : List (Entry U X L)) × HasNoPlaceSince log since × IsSettledAt log (seen_of t) old.0 old.1

  -- the generation is current, and what was current before is told with its acquires, and settled
  pub record IsRegistered (list : List L) (s t : Registrar D U W X L) (o : Opening D U W X L) (at : ℕ) (old : Option (ℕ × ℕ)) : Type 0 where
    pub ended : HasEnded s t o (Finish o.generation list)
    pub place : at ≡ places_of s
    pub told : old ≡ current_before s ended.before
    pub settled : SettlesOld t (ended.before ++ Finish o.generation list ∷ []) old

  -- a greater generation is current, and this one's slot was settled: nobody had acquired it
  pub record IsSuperseded (list : List L) (s t : Registrar D U W X L) (o : Opening D U W X L) (by at : ℕ) : Type 0 where
    pub ended : HasEnded s t o (Superseded o.generation by list)
    pub place : at ≡ places_of s
    pub current : by ≡ current_in (plan_of s) (seen_of s)
    pub log : List (Entry U X L)
    pub since : HasNoPlaceSince log (ended.before ++ Superseded o.generation by list ∷ [])
    pub settled : IsSettledAt log (seen_of t) o.generation 0

  -- either, and the entry carries this list
  abbrev pub HasPublished : List L → Registrar D U W X L → Registrar D U W X L → Opening D U W X L → Published → Type 0
  HasPublished list s t o (AsRegistered at old) = IsRegistered list s t o at old
  HasPublished list s t o (AsSuperseded by at) = IsSuperseded list s t o by at
