-- What is said of the registrar's seat while it claims a slot and fills it.
use Rattle.std.specs.Prelude.{◌≡◌, ◌≢◌, ℕ, ◌<◌, true, List, [], length, Some, None}
use Rattle.std.specs.List.{AllByRecursion}
use Rattle.registry_machine.specs.Legal.{Legal, state_of}
use Rattle.searcher_table.specs.declared.board.Plan.{Plan}
use Rattle.searcher_table.specs.declared.board.Task.{Task}
use Rattle.searcher_table.specs.declared.board.Task.TheVariants.{Filled}
use Rattle.searcher_table.specs.declared.board.Known.{Known}
use Rattle.searcher_table.specs.Words.{limits}
use Rattle.searcher_table.specs.Views.{HasNoPlaceSince}

module _ {W U X L : Type 0} where
  -- it is the registrar's, which has begun this, at a table that was made so
  pub record IsOpener (p : Plan W) (k : Known W U X L) (began : Task) : Type 0 where
    pub plan : k.plan ≡ Some p
    pub role : k.registrar ≡ true
    pub task : k.task ≡ began

  -- fewer generations are warming than may be
  abbrev pub HasRoom : Plan W → Known W U X L → Type 0
  HasRoom p k = length (state_of (limits p) k.seen).warming < p.max_warming

  -- it has begun this, and has seen no entry with a place more
  pub record HasBegun (p : Plan W) (k n : Known W U X L) (began : Task) : Type 0 where
    pub opener : IsOpener p n began
    pub seen : HasNoPlaceSince n.seen k.seen
    pub legal : Legal (limits p) n.seen
    pub back : n.back ≡ k.back
    pub hand : n.hand ≡ None

  -- the slot is open for none
  pub record IsForNone (p : Plan W) (n : Known W U X L) (slot : ℕ) : Type 0 where
    pub below : slot < (limits p).slots
    pub none : (state_of (limits p) n.seen).slots slot ≡ None

module _ {W U X L : Type 0} where
  -- so many doors are laid into the slot, and show these documents
  pub record HasLaid (p : Plan W) (k n : Known W U X L) (slot count : ℕ) (shown : X) : Type 0 where
    pub begun : HasBegun p k n (Filled slot count)
    pub filling : n.filling ≡ Some shown

module _ {D W X L : Type 0} where
  -- one door for each caller; they show the table's setting and the same documents, and nothing was done through them
  pub record AreAlike (setting : D → W) (docs : D → X) (deeds : D → List L) (p : Plan W) (doors : List D) : Type 0 where
    pub count : length doors ≡ p.callers
    pub settings : AllByRecursion (λ d. setting d ≡ p.setting.value) doors
    pub same : (shown : X) × AllByRecursion (λ d. docs d ≡ shown) doors
    pub unused : AllByRecursion (λ d. deeds d ≡ []) doors

module _ {D W U X L : Type 0} where
  -- the door shows the table's setting, and the documents that those before it show, and nothing was done through it
  pub record IsNextDoor (setting : D → W) (docs : D → X) (deeds : D → List L) (p : Plan W) (k : Known W U X L) (count : ℕ) (d : D) : Type 0 where
    pub few : count < p.callers
    pub setting_is : setting d ≡ p.setting.value
    pub same : count ≢ 0 → k.filling ≡ Some (docs d)
    pub unused : deeds d ≡ []

  -- they are laid into the slot
  pub record HasFilled (docs : D → X) (p : Plan W) (k n : Known W U X L) (slot : ℕ) (doors : List D) : Type 0 where
    pub shown : X
    pub laid : HasLaid p k n slot p.callers shown
    pub doors_show : AllByRecursion (λ d. docs d ≡ shown) doors
