use Rattle.std.proofs.Common.{vec_len}
use Rattle.warming_jobs.proofs.Closing.{IsGathered}
use Rattle.warming_jobs.proofs.board.Jobs.close.Given as goal

abbrev pub invariant-loop-puller : goal.invariant-loop-puller
invariant-loop-puller g l = IsGathered l.fn.pusher l.initial.pullers.items l.pullers.items l.pass

abbrev pub decreases-loop-puller : goal.decreases-loop-puller
decreases-loop-puller g l = vec_len l.pullers
