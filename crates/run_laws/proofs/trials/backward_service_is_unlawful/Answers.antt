use Rattle.run_laws.proofs.Alone.{served_backwards_alone}
use Rattle.run_laws.proofs.trials.backward_service_is_unlawful.Goals as goal

pub returns-clause-unlawful : goal.returns-clause-unlawful
returns-clause-unlawful c h = served_backwards_alone.breaks h.answered

pub returns-clause-alone : goal.returns-clause-alone
returns-clause-alone c = served_backwards_alone
