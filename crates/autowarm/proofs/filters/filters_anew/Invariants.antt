use Rattle.std.proofs.Common.{◌≡◌, ◌+◌, ◌≤◌, take, None}
use Rattle.query_eval.specs.Kept.{Kept}
use Rattle.view_cells.specs.Seats.{own_list}
use Rattle.shared_cells.specs.Seated.{IsBack, owned_key}
use Rattle.autowarm.specs.Steps.{AreDone, FilterStep}
use Rattle.autowarm.proofs.filters.filters_anew.Given as goal

-- the filters so far
abbrev pub invariant-loop-key : goal.invariant-loop-key
invariant-loop-key g l = record {
  back : IsBack l.fn.seat l.seat;
  owns : owned_key l.seat ≡ None;
  kept : Kept g.P.Reads.view g.P.Reads.terms g.P.Reads.counted l.fn.probe l.probe;
  few : l.tally.computed + l.tally.refused ≤ l.key-index;
  done :
      AreDone (FilterStep (g.P.Reads.view l.fn.probe)) (take l.key-index l.keys)
      (own_list l.fn.seat) (own_list l.seat) l.tally.computed l.tally.refused;
}
