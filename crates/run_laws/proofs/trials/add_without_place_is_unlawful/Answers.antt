use Rattle.run_laws.proofs.Alone.{add_has_no_place_alone}
use Rattle.run_laws.proofs.trials.add_without_place_is_unlawful.Goals as goal

pub returns-clause-unlawful : goal.returns-clause-unlawful
returns-clause-unlawful c h = add_has_no_place_alone.breaks h.answered

pub returns-clause-alone : goal.returns-clause-alone
returns-clause-alone c = add_has_no_place_alone
