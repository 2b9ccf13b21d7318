use Rattle.run_laws.proofs.Alone.{phase_did_not_wait_alone}
use Rattle.run_laws.proofs.trials.phase_that_does_not_wait_is_unlawful.Goals as goal

pub returns-clause-unlawful : goal.returns-clause-unlawful
returns-clause-unlawful c h = phase_did_not_wait_alone.breaks h.keeps_order

pub returns-clause-alone : goal.returns-clause-alone
returns-clause-alone c = phase_did_not_wait_alone
