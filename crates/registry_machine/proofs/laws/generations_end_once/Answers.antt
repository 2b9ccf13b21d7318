use Rattle.registry_machine.proofs.Indices.{ended_once, ended_opened, ended_behind, registered_in_order}
use Rattle.registry_machine.proofs.laws.generations_end_once.Goals as goal

pub returns-clause-once : goal.returns-clause-once
returns-clause-once g c l h m n x legal = ended_once l h legal m n x

pub returns-clause-opened : goal.returns-clause-opened
returns-clause-opened g c l h n x legal = ended_opened l h legal n x

pub returns-clause-behind : goal.returns-clause-behind
returns-clause-behind g c l h m n x legal = ended_behind l h legal m n x

pub returns-clause-ascending : goal.returns-clause-ascending
returns-clause-ascending g c l h m n x y legal = registered_in_order l h legal m n x y
