use Rattle.run_laws.proofs.Alone.{bad_add_is_accepted_alone}
use Rattle.run_laws.proofs.trials.accepted_bad_add_is_unlawful.Goals as goal

pub returns-clause-unlawful : goal.returns-clause-unlawful
returns-clause-unlawful c h = bad_add_is_accepted_alone.breaks h.answered

pub returns-clause-alone : goal.returns-clause-alone
returns-clause-alone c = bad_add_is_accepted_alone
