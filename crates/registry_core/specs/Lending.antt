-- What a warming ends as where a call lends its door.
use Rattle.std.specs.Borrow.{Lends, MutBor, Fml, RattleType}
use Rattle.searcher_table.specs.declared.shown.Shown.{Ghosts}
use Rattle.registry_core.specs.declared.fresh.Fresh.{Fresh}
use Rattle.registry_core.specs.contracts.fresh.Fresh as fresh
use Rattle.registry_core.specs.Freshness.{with_own}

module _ (D U W X L : RattleType) (shows : Ghosts D.Denot W.Denot X.Denot L.Denot) where
  -- the warming ends with the door that was written last
  abbrev pub lends_own : MutBor (Fresh D.Denot U.Denot W.Denot X.Denot L.Denot) → MutBor D.Denot → Fml
  lends_own t r = Lends (fresh.the_row D U W X L shows) D t r (with_own t.now)
