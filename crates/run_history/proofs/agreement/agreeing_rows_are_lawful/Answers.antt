use Rattle.run_history.proofs.Laws.{lawful}
use Rattle.run_history.proofs.agreement.agreeing_rows_are_lawful.Goals as goal

pub returns : goal.returns
returns g c = record { lawful = lawful }
