use Rattle.run_history.proofs.WorkedAgrees.{worked_agrees}
use Rattle.run_history.proofs.trials.worked_rows_agree.Goals as goal

pub returns-clause-agree : goal.returns-clause-agree
returns-clause-agree c = worked_agrees
