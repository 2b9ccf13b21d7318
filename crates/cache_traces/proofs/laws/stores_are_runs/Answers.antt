use Rattle.cache_machine.specs.Machine.{nothing_kept}
use Rattle.cache_traces.proofs.Storing.{store_run}
use Rattle.cache_traces.proofs.laws.stores_are_runs.Goals as goal

pub returns : goal.returns
returns g c r size greatest steps d trace = store_run r (nothing_kept size greatest) steps d trace
