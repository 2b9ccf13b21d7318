use Rattle.run_laws.proofs.Alone.{another_warming_told_alone}
use Rattle.run_laws.proofs.trials.another_warming_told_is_unlawful.Goals as goal

pub returns-clause-unlawful : goal.returns-clause-unlawful
returns-clause-unlawful c h = another_warming_told_alone.breaks h.answered

pub returns-clause-alone : goal.returns-clause-alone
returns-clause-alone c = another_warming_told_alone
