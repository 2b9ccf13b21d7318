use Rattle.run_laws.proofs.Alone.{places_are_swapped_alone}
use Rattle.run_laws.proofs.trials.swapped_places_are_unlawful.Goals as goal

pub returns-clause-unlawful : goal.returns-clause-unlawful
returns-clause-unlawful c h = places_are_swapped_alone.breaks h.keeps_order

pub returns-clause-alone : goal.returns-clause-alone
returns-clause-alone c = places_are_swapped_alone
