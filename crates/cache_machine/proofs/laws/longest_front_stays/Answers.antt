use Rattle.cache_machine.proofs.Fronts.{cut-longest}
use Rattle.cache_machine.proofs.laws.longest_front_stays.Goals as goal

pub returns : goal.returns
returns g c weight size greatest es = cut-longest weight size greatest es
