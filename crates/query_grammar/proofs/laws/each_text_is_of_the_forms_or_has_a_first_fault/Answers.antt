use Rattle.query_grammar.proofs.Finishing.{forms_or_fault}
use Rattle.query_grammar.proofs.Texts.{lexemes_end_once}
use Rattle.query_grammar.proofs.laws.each_text_is_of_the_forms_or_has_a_first_fault.Goals as goal

pub returns-clause-end : goal.returns-clause-end
returns-clause-end c = lexemes_end_once

pub returns-clause-either : goal.returns-clause-either
returns-clause-either c = forms_or_fault
