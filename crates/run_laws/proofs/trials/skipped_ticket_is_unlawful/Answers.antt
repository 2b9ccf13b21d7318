use Rattle.run_laws.proofs.Alone.{ticket_is_skipped_alone}
use Rattle.run_laws.proofs.trials.skipped_ticket_is_unlawful.Goals as goal

pub returns-clause-unlawful : goal.returns-clause-unlawful
returns-clause-unlawful c h = ticket_is_skipped_alone.breaks h.tickets

pub returns-clause-alone : goal.returns-clause-alone
returns-clause-alone c = ticket_is_skipped_alone
