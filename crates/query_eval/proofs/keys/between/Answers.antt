use Rattle.std.proofs.Common.{◌∙◌}
use Rattle.segment_postings.specs.Spans.{is_within}
use Rattle.query_eval.proofs.Steps.{found_within}
use Rattle.query_eval.proofs.keys.between.Goals as goal

pub returns-clause-found : goal.returns-clause-found
returns-clause-found g c = c.in_ok-found.ensures.numbers ∙ found_within c.args.field (is_within c.args.low.now c.args.high.now) (g.P.Reads.view c.args.probe.now)
