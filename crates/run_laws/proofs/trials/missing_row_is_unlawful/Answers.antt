use Rattle.run_laws.proofs.Alone.{row_is_missing_alone}
use Rattle.run_laws.proofs.trials.missing_row_is_unlawful.Goals as goal

pub returns-clause-unlawful : goal.returns-clause-unlawful
returns-clause-unlawful c h = row_is_missing_alone.breaks h.answers_each

pub returns-clause-alone : goal.returns-clause-alone
returns-clause-alone c = row_is_missing_alone
