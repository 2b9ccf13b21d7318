use Rattle.query_grammar.proofs.Texts.{letters_refused}
use Rattle.query_grammar.proofs.laws.a_fault_is_told_where_those_before_can_be_finished.Goals as goal

pub returns : goal.returns
returns c = letters_refused
