use Rattle.run_laws.proofs.Alone.{warmed_from_before_alone}
use Rattle.run_laws.proofs.trials.warming_from_before_is_unlawful.Goals as goal

pub returns-clause-unlawful : goal.returns-clause-unlawful
returns-clause-unlawful c h = warmed_from_before_alone.breaks h.warmings

pub returns-clause-alone : goal.returns-clause-alone
returns-clause-alone c = warmed_from_before_alone
