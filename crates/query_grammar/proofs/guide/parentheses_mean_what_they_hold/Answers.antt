use Rattle.query_grammar.proofs.Means.{parentheses_mean_what_they_hold}
use Rattle.query_grammar.proofs.guide.parentheses_mean_what_they_hold.Goals as goal

pub returns : goal.returns
returns c = parentheses_mean_what_they_hold
