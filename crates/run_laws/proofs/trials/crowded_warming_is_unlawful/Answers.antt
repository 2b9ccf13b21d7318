use Rattle.run_laws.proofs.Alone.{warms_too_many_alone}
use Rattle.run_laws.proofs.trials.crowded_warming_is_unlawful.Goals as goal

pub returns-clause-unlawful : goal.returns-clause-unlawful
returns-clause-unlawful c h = warms_too_many_alone.breaks h.answered

pub returns-clause-alone : goal.returns-clause-alone
returns-clause-alone c = warms_too_many_alone
