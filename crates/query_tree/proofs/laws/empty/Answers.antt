use Rattle.query_tree.proofs.MatchLaws.{empty_phrase, empty_bool}
use Rattle.query_tree.proofs.laws.empty.Goals as goal

pub returns-clause-phrase : goal.returns-clause-phrase
returns-clause-phrase c = empty_phrase

pub returns-clause-boolean : goal.returns-clause-boolean
returns-clause-boolean c = empty_bool
