use Rattle.std.proofs.Common.{arith}
use Rattle.warming_jobs.proofs.Steps.{begins}
use Rattle.warming_jobs.proofs.Making.{one_dealt}
use Rattle.warming_jobs.proofs.board.Jobs.make.Goals as goal

pub ruled-requires-clause-rule : goal.ruled-requires-clause-rule
ruled-requires-clause-rule g c = begins g.J.Job.generation

pub loop-number-preserved : goal.loop-number-preserved
loop-number-preserved g c =
    let i = c.loop-number.invariant in
    record {
      room = (let kept = c.push_reserved.ensures.capacity in let r = i.room in omega arith);
      pusher = c.deal.ensures.pusher;
      pullers = one_dealt c.in-Ok-ruled.queue.table.shared.table_id _ _ _ _ c.push_reserved.ensures.items i.pullers c.deal.ensures.puller;
    }
