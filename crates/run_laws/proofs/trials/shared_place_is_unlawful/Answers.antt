use Rattle.run_laws.proofs.Alone.{place_is_shared_alone}
use Rattle.run_laws.proofs.trials.shared_place_is_unlawful.Goals as goal

pub returns-clause-unlawful : goal.returns-clause-unlawful
returns-clause-unlawful c h = place_is_shared_alone.breaks h.one_history

pub returns-clause-alone : goal.returns-clause-alone
returns-clause-alone c = place_is_shared_alone
