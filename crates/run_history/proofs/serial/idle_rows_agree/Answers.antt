use Rattle.run_history.proofs.Requests.{idle_serves}
use Rattle.run_history.proofs.serial.idle_rows_agree.Goals as goal

pub returns : goal.returns
returns g c = record { added = λ r l k h ts lives s t serves row. idle_serves r l k h ts lives s serves t row.none row.reply }
