use Rattle.cache_traces.proofs.Runs.{run}
use Rattle.cache_machine.specs.Machine.{empty_cache}
use Rattle.cache_traces.proofs.laws.traces_are_runs.Goals as goal

pub returns : goal.returns
returns g c r size greatest seats steps d trace = run r (empty_cache size greatest seats) steps d trace
