use Rattle.run_laws.proofs.FirstPlace.{requests_above}
use Rattle.run_laws.proofs.places.first_place.Goals as goal

pub returns-clause-least : goal.returns-clause-least
returns-clause-least c = requests_above
