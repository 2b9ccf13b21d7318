use Rattle.warming_jobs.proofs.Steps.{pushes, ends_with}
use Rattle.warming_jobs.proofs.pusher.Pusher.push.Goals as goal

pub push_as-requires-clause-rule : goal.push_as-requires-clause-rule
push_as-requires-clause-rule g c =
    let pusher = c.args.self.now in
    (pushes g.J.Job.generation _ _ _ _ pusher.pushes c.requires.later, ends_with g.J.Job.generation _ _ pusher.pushes)
