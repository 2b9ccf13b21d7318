use Rattle.run_laws.proofs.Alone.{warmed_from_none_alone}
use Rattle.run_laws.proofs.trials.warming_from_none_is_unlawful.Goals as goal

pub returns-clause-unlawful : goal.returns-clause-unlawful
returns-clause-unlawful c h = warmed_from_none_alone.breaks h.warmings

pub returns-clause-alone : goal.returns-clause-alone
returns-clause-alone c = warmed_from_none_alone
