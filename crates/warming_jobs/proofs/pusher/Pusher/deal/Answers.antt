use Rattle.warming_jobs.proofs.Joining.{deals}
use Rattle.warming_jobs.proofs.pusher.Pusher.deal.Goals as goal

pub another-pass-requires-clause-rule : goal.another-pass-requires-clause-rule
another-pass-requires-clause-rule g c = deals g.J.Job.generation _ _ c.args.self.now.pushes
