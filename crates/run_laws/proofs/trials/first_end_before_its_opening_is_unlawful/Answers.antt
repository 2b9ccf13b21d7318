use Rattle.run_laws.proofs.Alone.{first_ends_first_alone}
use Rattle.run_laws.proofs.trials.first_end_before_its_opening_is_unlawful.Goals as goal

pub returns-clause-unlawful : goal.returns-clause-unlawful
returns-clause-unlawful c h = first_ends_first_alone.breaks h.one_history

pub returns-clause-alone : goal.returns-clause-alone
returns-clause-alone c = first_ends_first_alone
