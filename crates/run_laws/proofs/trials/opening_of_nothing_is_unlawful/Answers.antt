use Rattle.run_laws.proofs.Alone.{opened_nothing_alone}
use Rattle.run_laws.proofs.trials.opening_of_nothing_is_unlawful.Goals as goal

pub returns-clause-unlawful : goal.returns-clause-unlawful
returns-clause-unlawful c h = opened_nothing_alone.breaks h.answered

pub returns-clause-alone : goal.returns-clause-alone
returns-clause-alone c = opened_nothing_alone
