use Rattle.run_laws.proofs.Alone.{opened_by_nobody_alone}
use Rattle.run_laws.proofs.trials.opening_by_nobody_is_unlawful.Goals as goal

pub returns-clause-unlawful : goal.returns-clause-unlawful
returns-clause-unlawful c h = opened_by_nobody_alone.breaks h.one_history

pub returns-clause-alone : goal.returns-clause-alone
returns-clause-alone c = opened_by_nobody_alone
