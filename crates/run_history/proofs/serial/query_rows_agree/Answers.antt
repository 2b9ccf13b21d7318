use Rattle.run_history.proofs.Requests.{query_serves}
use Rattle.run_history.proofs.serial.query_rows_agree.Goals as goal

pub returns : goal.returns
returns g c = record { added = λ r l k h ts lives s t asked serves row. query_serves r l k h ts lives s serves t asked row.wanted row.numbers row.shown row.last }
