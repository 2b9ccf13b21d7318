use Rattle.run_laws.proofs.Alone.{phases_are_swapped_alone}
use Rattle.run_laws.proofs.trials.swapped_phases_are_unlawful.Goals as goal

pub returns-clause-unlawful : goal.returns-clause-unlawful
returns-clause-unlawful c h = phases_are_swapped_alone.breaks h.keeps_order

pub returns-clause-alone : goal.returns-clause-alone
returns-clause-alone c = phases_are_swapped_alone
