use Rattle.std.proofs.Common.{subst, ◌∙◌, arith}
use Rattle.view_cells.specs.Seats.{own_list}
use Rattle.searcher_core.proofs.Resting.{both_seats}
use Rattle.autowarm.specs.Steps.{FilterStep}
use Rattle.autowarm.proofs.Turning.{done_more}
use Rattle.autowarm.proofs.filters.filters_anew.Goals as goal

pub loop-key-preserved : goal.loop-key-preserved
loop-key-preserved g c =
    let so = c.loop-key.invariant in
    let now = c.filter_anew-done.ensures in
    let seen = so.kept.view in
    record {
      back = record { seat = both_seats so.back.seat now.back.seat; idle = now.back.idle };
      owns = now.owns;
      kept = record {
        view = now.kept.view ∙ so.kept.view;
        terms = now.kept.terms ∙ so.kept.terms;
        values = now.kept.values ∙ so.kept.values;
        stored = now.kept.stored ∙ so.kept.stored;
      };
      few = omega arith;
      done =
          done_more (FilterStep (g.P.Reads.view c.args.probe.now)) c.args.keys.now c.loop-key.key-index c.key-item.result c.filter_anew-done.result
          (own_list c.args.seat.now) (own_list c.loop-key.seat) (own_list c.filter_anew-done.new.seat)
          c.loop-key.tally.computed c.loop-key.tally.refused c.with-tally.result.computed c.with-tally.result.refused
          c.loop-key-test.true c.key-item.is so.done
          (subst (λ w. FilterStep w c.key-item.result c.filter_anew-done.result (own_list c.loop-key.seat) (own_list c.filter_anew-done.new.seat)) seen now.step)
          c.with-tally.ensures.computed c.with-tally.ensures.refused;
    }
