use Rattle.std.proofs.Common.{◌≤◌, vec_capacity}
use Rattle.warming_jobs.specs.Passes.{queue_of}
use Rattle.warming_jobs.specs.Making.{IsNewPusher, AreNewPullers}
use Rattle.warming_jobs.proofs.board.Jobs.make.Given as goal

abbrev pub invariant-loop-number : goal.invariant-loop-number
invariant-loop-number g l = record {
  room : l.pullers ≤ vec_capacity l.dealt;
  pusher : IsNewPusher (queue_of l.jobs) l.number l.pusher;
  pullers : AreNewPullers (queue_of l.jobs) l.number l.dealt.items;
}
