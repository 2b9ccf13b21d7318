use Rattle.std.proofs.Common.{arith}
use Rattle.segment_postings.specs.Renumbering.{moves_from}
use Rattle.segment_postings.proofs.MovedPlaces.{moves_more, at_most_one}
use Rattle.segment_postings.proofs.renumbering.moves.Goals as goal

pub loop-i-preserved : goal.loop-i-preserved
loop-i-preserved c = record {
  few = omega (arith, c.past-next.ensures, at_most_one c.has-stays.result c.loop-i.next, c.loop-i.invariant.few);
  so_far = moves_more c.args.live.now c.args.base c.args.first c.loop-i.i c.args.count c.loop-i.next c.past-next.result c.push.new.self.items c.loop-i.moves.items
      (moves_from c.args.live.now c.args.base c.args.first c.args.count) c.has-stays.result c.number_if.result (omega arith) c.has-stays.ensures.member c.number_if.ensures c.past-next.ensures c.in_ok-push.ensures.items c.loop-i.invariant.so_far;
}
