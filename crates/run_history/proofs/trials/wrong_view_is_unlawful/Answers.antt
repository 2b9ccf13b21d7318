use Rattle.run_history.proofs.TrialsAlone.{blindly_served_alone}
use Rattle.run_laws.proofs.Alone.{reply_of_another_view_alone}
use Rattle.run_history.proofs.trials.wrong_view_is_unlawful.Goals as goal

pub returns-clause-unlawful : goal.returns-clause-unlawful
returns-clause-unlawful c h = reply_of_another_view_alone.breaks h.answered

pub returns-clause-alone : goal.returns-clause-alone
returns-clause-alone c = blindly_served_alone
