-- The doors that a writer makes for an opening.
use Rattle.std.specs.Prelude.{◌≡◌, ℕ, List, [], length}
use Rattle.std.specs.List.{AllByRecursion}
use Rattle.searcher_table.specs.declared.shown.Shown.{Ghosts}

module _ {D S X L : Type 0} (is : Ghosts D S X L) (with : S) where
  -- the door was made with this setting, shows these documents, and nothing was done through it
  pub record IsNewDoor (shown : X) (d : D) : Type 0 where
    pub setting : is.setting d ≡ with
    pub docs : is.docs d ≡ shown
    pub unused : is.list d ≡ []

  -- there is a new door for each of so many callers, and an own one; all show the same documents, which are right
  pub record AreMade (Right : X → Type 0) (callers : ℕ) (doors : List D) (own : D) : Type 0 where
    pub count : length doors ≡ callers
    pub shown : X
    pub right : Right shown
    pub each : AllByRecursion (IsNewDoor shown) doors
    pub last : IsNewDoor shown own
