use Rattle.query_grammar.proofs.Finishing.{standing_is_forms}
use Rattle.query_grammar.proofs.laws.what_stands_is_of_the_forms.Goals as goal

pub returns : goal.returns
returns c = standing_is_forms
