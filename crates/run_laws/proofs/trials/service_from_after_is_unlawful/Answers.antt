use Rattle.run_laws.proofs.Alone.{served_from_after_alone}
use Rattle.run_laws.proofs.trials.service_from_after_is_unlawful.Goals as goal

pub returns-clause-unlawful : goal.returns-clause-unlawful
returns-clause-unlawful c h = served_from_after_alone.breaks h.answered

pub returns-clause-alone : goal.returns-clause-alone
returns-clause-alone c = served_from_after_alone
