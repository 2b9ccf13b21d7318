use Rattle.std.proofs.Common.{◌≡◌}
use Rattle.warming_jobs.specs.Passes.{pushed_of, IsSamePusher}
use Rattle.warming_jobs.proofs.pusher.Pusher.push_waiting.Given as goal

abbrev pub invariant-loop : goal.invariant-loop
invariant-loop g l = record {
  can_next : (goal.iterator-loop g).can_next l.iterator';
  finite : (goal.iterator-loop g).is_finite l.iterator';
  same : IsSamePusher l.initial.self l.self;
  pushed : pushed_of l.self ≡ pushed_of l.initial.self;
  job : l.job ≡ l.initial.job;
}
