use Rattle.run_history.proofs.Requests.{update_serves}
use Rattle.run_history.proofs.serial.update_rows_agree.Goals as goal

pub returns : goal.returns
returns g c = record { added = λ r l k h ts lives s t u serves row. update_serves r l k h ts lives s serves t u row.line row.wanted row.numbers row.shown row.last }
