use Rattle.query_grammar.proofs.Texts.{letters_read, texts_read}
use Rattle.query_grammar.proofs.laws.texts_of_the_forms_read.Goals as goal

pub returns-clause-letters : goal.returns-clause-letters
returns-clause-letters c = letters_read

pub returns-clause-texts : goal.returns-clause-texts
returns-clause-texts c = texts_read
