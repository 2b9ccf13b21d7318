use Rattle.run_laws.proofs.Alone.{registered_too_late_alone}
use Rattle.run_laws.proofs.trials.late_registration_is_unlawful.Goals as goal

pub returns-clause-unlawful : goal.returns-clause-unlawful
returns-clause-unlawful c h = registered_too_late_alone.breaks h.greatest_serves

pub returns-clause-alone : goal.returns-clause-alone
returns-clause-alone c = registered_too_late_alone
