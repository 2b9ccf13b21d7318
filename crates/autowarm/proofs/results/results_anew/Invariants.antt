use Rattle.std.proofs.Common.{◌≡◌, ◌+◌, ◌≤◌, take}
use Rattle.view_cells.specs.Seats.{own_list}
use Rattle.searcher_core.specs.Seating.{AreSameSeats}
use Rattle.autowarm.specs.Steps.{AreDone, ResultStep}
use Rattle.autowarm.proofs.results.results_anew.Given as goal

-- the results so far
abbrev pub invariant-loop-key : goal.invariant-loop-key
invariant-loop-key g l = record {
  door : AreSameSeats l.fn.seats l.seats;
  view : g.P.Reads.view l.probe ≡ g.P.Reads.view l.fn.probe;
  terms : g.P.Reads.terms l.probe ≡ g.P.Reads.terms l.fn.probe;
  filters : own_list l.seats.filters ≡ own_list l.fn.seats.filters;
  documents : own_list l.seats.documents ≡ own_list l.fn.seats.documents;
  few : l.tally.computed + l.tally.refused ≤ l.key-index;
  done :
      AreDone (ResultStep l.searcher) (take l.key-index l.keys)
      (own_list l.fn.seats.results) (own_list l.seats.results) l.tally.computed l.tally.refused;
}
