-- What contracts say of acquires, and of pins.
use Rattle.std.specs.Prelude.{◌≡◌, ◌⊎◌, ℕ, ◌+◌, ◌<◌, List, [], ◌∷◌, ◌++◌, count_by}
use Rattle.std.specs.Arc.{arc_value}
use Rattle.atomic_table.specs.Seated.{TableId}
use Rattle.registry_machine.specs.declared.entry.Entry.{Entry}
use Rattle.registry_machine.specs.declared.entry.Entry.TheVariants.{Acquire, NotYet, Release, Free}
use Rattle.registry_machine.specs.Legal.{Legal}
use Rattle.registry_machine.specs.Callers.{mine}
use Rattle.searcher_table.specs.declared.board.Plan.{Plan}
use Rattle.searcher_table.specs.declared.board.Known.{Known}
use Rattle.searcher_table.specs.declared.shown.Shown.{Ghosts}
use Rattle.searcher_table.specs.declared.pass.Pass.{Pass}
use Rattle.searcher_table.specs.declared.pin.Pin.{Pin}
use Rattle.searcher_table.specs.declared.pin.AcquireRefusal.{AcquireRefusal}
use Rattle.searcher_table.specs.declared.pin.AcquireRefusal.TheVariants.{NotYet as IsNotYet, Spent}
use Rattle.searcher_table.specs.declared.tokens.Sighting.{Sighting}
use Rattle.searcher_table.specs.Words.{limits}
use Rattle.searcher_table.specs.Counts.{is_acquire}
use Rattle.searcher_table.specs.Doors.{shown_in, left_in, IsDoor}
use Rattle.searcher_table.specs.Views.{StartsWith, GoesOn}
use Rattle.searcher_table.specs.Passes as pass
use Rattle.searcher_table.specs.Passes.{mine_of, sighted, sighted_at, IsSamePass}

-- after one step what a caller has seen is legal, goes on from what it had seen, and ends with this entry of its own. Behind those that it had stands, where what it had announced was executed meanwhile, that call's one
pub record HasEntered {W U X L : Type 0} (p : Plan W) (c : ℕ) (k n : Known W U X L) (e : Entry U X L) : Type 0 where
  pub before : List (Entry U X L)
  pub seen : StartsWith before k.seen
  pub legal : Legal (limits p) n.seen
  pub last : n.seen ≡ before ++ e ∷ []
  pub calls : GoesOn c k.mine k.announced (mine c before) n.announced
  pub grown : n.mine ≡ mine c before ++ e ∷ []
  pub own : n.mine ≡ mine c n.seen
  pub steps : n.steps ≡ k.steps + 1

-- after one step more what the caller has seen ends with the freeing of the generation's slot, and it has no entry more but, where what it had announced was executed meanwhile, that call's one
pub record HasFreed {W U X L : Type 0} (p : Plan W) (c : ℕ) (k n : Known W U X L) (g : ℕ) : Type 0 where
  pub before : List (Entry U X L)
  pub seen : StartsWith before k.seen
  pub legal : Legal (limits p) n.seen
  pub last : n.seen ≡ before ++ Free g ∷ []
  pub calls : GoesOn c k.mine k.announced n.mine n.announced
  pub own : n.mine ≡ mine c n.seen
  pub steps : n.steps ≡ k.steps + 1

module _ {D U W X L : Type 0} where
  -- the table that the pin is at, and what that was made with
  abbrev pub table_of : Pin D U W X L → TableId
  table_of t = t.place.table_id

  abbrev pub plan_of : Pin D U W X L → Plan W
  plan_of t = (arc_value t.table).shared.key

  -- how often the pass has acquired, what came too early included
  abbrev pub acquires_of : Pass D U W X L → ℕ
  acquires_of t = count_by is_acquire (mine_of t)

  -- the pin is the pass's caller's, at the same table
  pub record IsPinOf (t : Pass D U W X L) (pin : Pin D U W X L) : Type 0 where
    pub table : table_of pin ≡ pass.table_of t
    pub plan : plan_of pin ≡ pass.plan_of t
    pub caller : pin.caller ≡ t.caller

  -- the caller has acquired this generation with this ticket, which it could once more
  pub record HasAcquired (t : Pass D U W X L) (pin : Pin D U W X L) : Type 0 where
    pub same : IsPinOf t pin
    pub left : acquires_of t < (pass.plan_of t).budget
    pub entered : HasEntered (pass.plan_of t) t.caller t.place.me.0 pin.place.me.0 (Acquire t.caller pin.generation pin.ticket)

  -- nothing was current
  pub record CameTooEarly (s t : Pass D U W X L) : Type 0 where
    pub same : IsSamePass s t
    pub left : acquires_of s < (pass.plan_of s).budget
    pub entered : HasEntered (pass.plan_of s) s.caller s.place.me.0 t.place.me.0 (NotYet s.caller)

  -- the pass has acquired as often as it may, and has made no step
  pub record IsSpent (s t : Pass D U W X L) (made : ℕ) : Type 0 where
    pub same : t ≡ s
    pub told : made ≡ acquires_of s
    pub spent : made ≡ (pass.plan_of s).budget

  abbrev pub IsNotAcquired : Pass D U W X L → Pass D U W X L → AcquireRefusal → Type 0
  IsNotAcquired s t IsNotYet = CameTooEarly s t
  IsNotAcquired s t (Spent made) = IsSpent s t made

  -- the caller has released what it pinned, with what was done through its door; and where nobody used the generation any more, its slot was freed by one step more
  pub record HasReleased (deeds : D → List L) (pin : Pin D U W X L) (t : Pass D U W X L) : Type 0 where
    pub same : IsPinOf t pin
    pub after : Known W U X L
    pub entered : HasEntered (plan_of pin) pin.caller pin.place.me.0 after (Release pin.caller pin.generation (deeds pin.door))
    pub ended : (t.place.me.0 ≡ after) ⊎ HasFreed (plan_of pin) pin.caller after t.place.me.0 pin.generation

  -- one pin, which has made no step and knows what it knew
  pub record IsSamePin (s t : Pin D U W X L) : Type 0 where
    pub table : table_of t ≡ table_of s
    pub plan : plan_of t ≡ plan_of s
    pub caller : t.caller ≡ s.caller
    pub generation : t.generation ≡ s.generation
    pub ticket : t.ticket ≡ s.ticket
    pub seen : t.place.me.0.seen ≡ s.place.me.0.seen
    pub mine : t.place.me.0.mine ≡ s.place.me.0.mine
    pub announced : t.place.me.0.announced ≡ s.place.me.0.announced
    pub steps : t.place.me.0.steps ≡ s.place.me.0.steps
    pub door : t.door ≡ s.door

  -- the pin's door shows the table's setting, and the documents of the generation's opening
  abbrev pub IsDoorOf : (D → W) → (D → X) → Pin D U W X L → Type 0
  IsDoorOf setting docs pin = IsDoor setting docs (plan_of pin) (shown_in pin.place.me.0.seen pin.generation) pin.door

  -- it is as the caller's last release of the generation left it, or the opening where there was none
  abbrev pub IsAsLeft : (D → List L) → Pin D U W X L → Type 0
  IsAsLeft deeds pin = deeds pin.door ≡ left_in pin.place.me.0.seen pin.generation pin.caller

  -- the same pin, with this door
  abbrev pub with_door : Pin D U W X L → D → Pin D U W X L
  with_door pin door = record pin { door = door }

module _ {D U W X L : Type 0} {shows : Ghosts D W X L} where
  -- the sighting carries what the pin's pass has seen
  pub record IsSightingOf (t : Pin D U W X L) (note : Sighting D U W X L shows) : Type 0 where
    pub table : sighted_at note ≡ table_of t
    pub seen : sighted note ≡ t.place.me.0.seen
