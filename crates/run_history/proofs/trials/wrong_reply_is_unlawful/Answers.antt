use Rattle.run_history.proofs.TrialsAlone.{told_without_memory_alone}
use Rattle.run_laws.proofs.Alone.{placed_without_memory_alone}
use Rattle.run_history.proofs.trials.wrong_reply_is_unlawful.Goals as goal

pub returns-clause-unlawful : goal.returns-clause-unlawful
returns-clause-unlawful c h = placed_without_memory_alone.breaks h.answered

pub returns-clause-alone : goal.returns-clause-alone
returns-clause-alone c = told_without_memory_alone
