use Rattle.run_laws.proofs.Alone.{openings_descend_alone}
use Rattle.run_laws.proofs.trials.descending_openings_are_unlawful.Goals as goal

pub returns-clause-unlawful : goal.returns-clause-unlawful
returns-clause-unlawful c h = openings_descend_alone.breaks h.one_history

pub returns-clause-alone : goal.returns-clause-alone
returns-clause-alone c = openings_descend_alone
