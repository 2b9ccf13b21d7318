use Rattle.query_grammar.proofs.Finishing.{standing_goes_on}
use Rattle.query_grammar.proofs.laws.each_state_can_be_finished.Goals as goal

pub returns : goal.returns
returns c = standing_goes_on
