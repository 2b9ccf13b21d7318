use Rattle.run_history.proofs.Requests.{opening_serves}
use Rattle.run_history.proofs.serial.opening_rows_agree.Goals as goal

pub returns : goal.returns
returns g c = record { added = λ r l k h ts lives s t u slot d serves row. opening_serves r l k h ts lives s serves t u slot d row.line row.wanted row.numbers row.shown row.last row.carried row.other row.room row.within row.slot_below }
