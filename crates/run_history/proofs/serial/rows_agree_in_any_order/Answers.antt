use Rattle.run_history.proofs.Starts.{permuted}
use Rattle.run_history.proofs.serial.rows_agree_in_any_order.Goals as goal

pub returns : goal.returns
returns g c = record { moved = permuted }
