use Rattle.std.proofs.Common.{[]}
use Rattle.std.proofs.lemmas.List.Elements.{All-nil}
use Rattle.warming_jobs.proofs.Steps.{takes, had_turns}
use Rattle.warming_jobs.proofs.puller.Puller.take.Goals as goal

pub pop_as-requires-clause-rule : goal.pop_as-requires-clause-rule
pop_as-requires-clause-rule g c = (takes g.J.Job.generation _ _ _ _ [] c.args.self.now.own (All-nil _), had_turns g.J.Job.generation _ _)
