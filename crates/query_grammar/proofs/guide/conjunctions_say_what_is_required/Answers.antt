use Rattle.query_grammar.proofs.Means.{and_requires, or_allows}
use Rattle.query_grammar.proofs.guide.conjunctions_say_what_is_required.Goals as goal

pub returns-clause-and : goal.returns-clause-and
returns-clause-and c = and_requires

pub returns-clause-or : goal.returns-clause-or
returns-clause-or c = or_allows
