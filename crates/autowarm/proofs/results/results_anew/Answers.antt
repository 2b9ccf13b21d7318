use Rattle.std.proofs.Common.{◌∙◌, arith}
use Rattle.view_cells.specs.Seats.{own_list}
use Rattle.autowarm.specs.Steps.{ResultStep}
use Rattle.autowarm.proofs.Doors.{both_doors, still_seats}
use Rattle.autowarm.proofs.Turning.{done_more}
use Rattle.autowarm.proofs.results.results_anew.Goals as goal

pub result_anew-done-requires-clause-door : goal.result_anew-done-requires-clause-door
result_anew-done-requires-clause-door g c = still_seats c.requires.door c.loop-key.invariant.door

pub loop-key-preserved : goal.loop-key-preserved
loop-key-preserved g c =
    let so = c.loop-key.invariant in
    let now = c.result_anew-done.ensures in
    record {
      door = both_doors so.door now.door;
      view = now.view ∙ so.view;
      terms = now.terms ∙ so.terms;
      filters = now.filters ∙ so.filters;
      documents = now.documents ∙ so.documents;
      few = omega arith;
      done =
          done_more (ResultStep c.args.searcher.now) c.args.keys.now c.loop-key.key-index c.key-item.result c.result_anew-done.result
          (own_list c.args.seats.now.results) (own_list c.loop-key.seats.results) (own_list c.result_anew-done.new.seats.results)
          c.loop-key.tally.computed c.loop-key.tally.refused c.with-tally.result.computed c.with-tally.result.refused
          c.loop-key-test.true c.key-item.is so.done now.step
          c.with-tally.ensures.computed c.with-tally.ensures.refused;
    }
