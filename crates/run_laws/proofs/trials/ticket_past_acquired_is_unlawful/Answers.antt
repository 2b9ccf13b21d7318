use Rattle.run_laws.proofs.Alone.{ticket_past_acquired_alone}
use Rattle.run_laws.proofs.trials.ticket_past_acquired_is_unlawful.Goals as goal

pub returns-clause-unlawful : goal.returns-clause-unlawful
returns-clause-unlawful c h = ticket_past_acquired_alone.breaks h.tickets

pub returns-clause-alone : goal.returns-clause-alone
returns-clause-alone c = ticket_past_acquired_alone
