use Rattle.run_history.proofs.TrialsAlone.{commits_told_alone}
use Rattle.run_laws.proofs.Alone.{warmed_from_before_alone}
use Rattle.run_history.proofs.trials.early_warming_is_unlawful.Goals as goal

pub returns-clause-unlawful : goal.returns-clause-unlawful
returns-clause-unlawful c h = warmed_from_before_alone.breaks h.warmings

pub returns-clause-alone : goal.returns-clause-alone
returns-clause-alone c = commits_told_alone
