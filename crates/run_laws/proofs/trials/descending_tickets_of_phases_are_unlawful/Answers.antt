use Rattle.run_laws.proofs.TicketTrials.{phases_descend_alone}
use Rattle.run_laws.proofs.trials.descending_tickets_of_phases_are_unlawful.Goals as goal

pub returns-clause-unlawful : goal.returns-clause-unlawful
returns-clause-unlawful c h = phases_descend_alone.breaks h.answered

pub returns-clause-alone : goal.returns-clause-alone
returns-clause-alone c = phases_descend_alone
