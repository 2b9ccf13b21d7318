use Rattle.query_grammar.proofs.Means.{plus_requires, minus_prohibits, not_is_minus}
use Rattle.query_grammar.proofs.guide.modifiers_require_and_prohibit.Goals as goal

pub returns-clause-plus : goal.returns-clause-plus
returns-clause-plus c = plus_requires

pub returns-clause-minus : goal.returns-clause-minus
returns-clause-minus c = minus_prohibits

pub returns-clause-not : goal.returns-clause-not
returns-clause-not c = not_is_minus
