use Rattle.run_history.proofs.TrialsAlone.{served_once_alone}
use Rattle.run_history.proofs.trials.pin_that_stays_breaks_agreement.Goals as goal

pub returns : goal.returns
returns c = record { alone = served_once_alone }
