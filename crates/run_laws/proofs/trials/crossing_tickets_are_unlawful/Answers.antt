use Rattle.run_laws.proofs.TicketTrials.{tickets_cross_alone}
use Rattle.run_laws.proofs.trials.crossing_tickets_are_unlawful.Goals as goal

pub returns-clause-unlawful : goal.returns-clause-unlawful
returns-clause-unlawful c h = tickets_cross_alone.breaks h.ticket_order

pub returns-clause-alone : goal.returns-clause-alone
returns-clause-alone c = tickets_cross_alone
