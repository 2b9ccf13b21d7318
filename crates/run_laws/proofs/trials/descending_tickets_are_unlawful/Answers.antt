use Rattle.run_laws.proofs.Alone.{tickets_descend_alone}
use Rattle.run_laws.proofs.trials.descending_tickets_are_unlawful.Goals as goal

pub returns-clause-unlawful : goal.returns-clause-unlawful
returns-clause-unlawful c h = tickets_descend_alone.breaks h.answered

pub returns-clause-alone : goal.returns-clause-alone
returns-clause-alone c = tickets_descend_alone
