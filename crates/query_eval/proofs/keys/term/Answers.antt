use Rattle.std.proofs.Common.{◌∙◌}
use Rattle.field_schema.specs.Keys.{key_eq}
use Rattle.query_eval.proofs.Steps.{found_within}
use Rattle.query_eval.proofs.keys.term.Goals as goal

pub returns-clause-found : goal.returns-clause-found
returns-clause-found g c = c.in_ok-found.ensures.numbers ∙ found_within c.args.field (key_eq c.args.key.now) (g.P.Reads.view c.args.probe.now)
