use Rattle.run_laws.proofs.Worked.{worked_is_lawful, worked_found, worked_docs, worked_text_is}
use Rattle.run_laws.proofs.trials.worked_output_is_lawful.Goals as goal

pub returns-clause-lawful : goal.returns-clause-lawful
returns-clause-lawful c = worked_is_lawful

pub returns-clause-found : goal.returns-clause-found
returns-clause-found c = worked_found

pub returns-clause-docs : goal.returns-clause-docs
returns-clause-docs c = worked_docs

pub returns-clause-text : goal.returns-clause-text
returns-clause-text c = worked_text_is
