use Rattle.run_laws.proofs.TicketTrials.{warming_crosses_alone}
use Rattle.run_laws.proofs.trials.crossing_ticket_of_warming_is_unlawful.Goals as goal

pub returns-clause-unlawful : goal.returns-clause-unlawful
returns-clause-unlawful c h = warming_crosses_alone.breaks h.ticket_order

pub returns-clause-alone : goal.returns-clause-alone
returns-clause-alone c = warming_crosses_alone
