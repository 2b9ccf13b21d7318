-- What a pin ends as where a call lends its door.
use Rattle.std.specs.Borrow.{Lends, MutBor, Fml, RattleType}
use Rattle.searcher_table.specs.declared.shown.Shown.{Ghosts}
use Rattle.searcher_table.specs.declared.pin.Pin.{Pin}
use Rattle.searcher_table.specs.contracts.pin.Pin as pin
use Rattle.searcher_table.specs.Pins.{with_door}

module _ (D U W X L : RattleType) (shows : Ghosts D.Denot W.Denot X.Denot L.Denot) where
  -- the pin ends with the door that was written last
  abbrev pub lends_door : MutBor (Pin D.Denot U.Denot W.Denot X.Denot L.Denot) → MutBor D.Denot → Fml
  lends_door t r = Lends (pin.the_row D U W X L shows) D t r (with_door t.now)
