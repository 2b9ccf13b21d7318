use Rattle.std.proofs.Common.{◌≡◌, ◌-◌, ◌≤◌, vec_len, vec_capacity}
use Rattle.crossbeam_queue.specs.Passes.{view, IsPassOf}
use Rattle.warming_jobs.proofs.Draining.{drained}
use Rattle.warming_jobs.proofs.board.Jobs.drain.Given as goal

abbrev pub invariant-loop-pass : goal.invariant-loop-pass
invariant-loop-pass g l = record {
  queue : IsPassOf l.self.queue l.pass;
  known : view l.pass ≡ drained (view l.fn.pass) l.left.items;
  room : l.count ≤ vec_capacity l.left;
}

abbrev pub decreases-loop-pass : goal.decreases-loop-pass
decreases-loop-pass g l = l.count - vec_len l.left
