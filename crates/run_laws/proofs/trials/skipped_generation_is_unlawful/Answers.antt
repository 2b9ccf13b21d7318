use Rattle.run_laws.proofs.Alone.{generation_is_skipped_alone}
use Rattle.run_laws.proofs.trials.skipped_generation_is_unlawful.Goals as goal

pub returns-clause-unlawful : goal.returns-clause-unlawful
returns-clause-unlawful c h = generation_is_skipped_alone.breaks h.answers_each

pub returns-clause-alone : goal.returns-clause-alone
returns-clause-alone c = generation_is_skipped_alone
