use Rattle.cache_traces.proofs.Owners.{owns}
use Rattle.cache_traces.proofs.laws.owners_are_told.Goals as goal

pub returns : goal.returns
returns g c r size greatest seats steps d trace seat within = (owns r size greatest seats steps d trace).owned seat
