use Rattle.query_grammar.proofs.Right.{letters_read_to, texts_read_to}
use Rattle.query_grammar.proofs.laws.texts_read_to_what_right_trees_mean.Goals as goal

pub returns-clause-letters : goal.returns-clause-letters
returns-clause-letters c = letters_read_to

pub returns-clause-texts : goal.returns-clause-texts
returns-clause-texts c = texts_read_to
