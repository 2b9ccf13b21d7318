use Rattle.query_grammar.proofs.Means.{or_joins, and_joins}
use Rattle.query_grammar.proofs.guide.the_operator_joins_what_no_conjunction_does.Goals as goal

pub returns-clause-or : goal.returns-clause-or
returns-clause-or c = or_joins

pub returns-clause-and : goal.returns-clause-and
returns-clause-and c = and_joins
