use Rattle.run_history.proofs.Starts.{starts}
use Rattle.run_history.proofs.serial.runs_start.Goals as goal

pub returns : goal.returns
returns g c = record { started = λ r l k caller u slot d can. starts _ r l k caller u slot d can }
