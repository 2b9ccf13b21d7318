use Rattle.run_history.proofs.TrialsAlone.{placed_idly_alone}
use Rattle.run_laws.proofs.Alone.{placed_without_memory_alone}
use Rattle.run_history.proofs.trials.placed_row_that_tells_nothing_is_unlawful.Goals as goal

pub returns-clause-unlawful : goal.returns-clause-unlawful
returns-clause-unlawful c h = placed_without_memory_alone.breaks h.answered

pub returns-clause-alone : goal.returns-clause-alone
returns-clause-alone c = placed_idly_alone
