use Rattle.query_grammar.proofs.Finishing.{nothing_goes_on}
use Rattle.query_grammar.proofs.laws.nothing_goes_on_behind_a_fault.Goals as goal

pub returns : goal.returns
returns c = nothing_goes_on
