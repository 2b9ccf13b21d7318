use Rattle.query_grammar.proofs.Means.{field_goes_in}
use Rattle.query_grammar.proofs.guide.a_field_goes_into_parentheses.Goals as goal

pub returns : goal.returns
returns c = field_goes_in
