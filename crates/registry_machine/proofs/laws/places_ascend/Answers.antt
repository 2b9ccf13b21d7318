use Rattle.registry_machine.proofs.Ranks.{rank_rises, rank_rises_over, one_index, has_index}
use Rattle.registry_machine.proofs.laws.places_ascend.Goals as goal

pub returns-clause-rising : goal.returns-clause-rising
returns-clause-rising g c = rank_rises

pub returns-clause-strictly : goal.returns-clause-strictly
returns-clause-strictly g c = rank_rises_over

pub returns-clause-one : goal.returns-clause-one
returns-clause-one g c = one_index

pub returns-clause-each : goal.returns-clause-each
returns-clause-each g c = has_index
