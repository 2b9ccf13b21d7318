use Rattle.cache_machine.proofs.Missing.{pending_are_missing}
use Rattle.cache_machine.proofs.laws.what_serves_is_hit.Goals as goal

pub returns-clause-missing : goal.returns-clause-missing
returns-clause-missing g c weight size greatest seats steps to all run = pending_are_missing g.met.K.Eq.laws weight size greatest seats steps to all run
