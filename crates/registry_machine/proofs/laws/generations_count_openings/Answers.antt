use Rattle.registry_machine.specs.Machine.{start}
use Rattle.registry_machine.proofs.Tellings.{opened_from}
use Rattle.registry_machine.proofs.Indices.{opened_in_order, opened_once}
use Rattle.registry_machine.proofs.laws.generations_count_openings.Goals as goal

pub returns-clause-listed : goal.returns-clause-listed
returns-clause-listed g c l h legal = opened_from l (start l) h legal

pub returns-clause-ascending : goal.returns-clause-ascending
returns-clause-ascending g c l h m n x y legal = opened_in_order l h legal m n x y

pub returns-clause-once : goal.returns-clause-once
returns-clause-once g c l h m n x legal = opened_once l h legal m n x
