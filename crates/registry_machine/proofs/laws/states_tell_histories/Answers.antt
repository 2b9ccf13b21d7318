use Rattle.std.proofs.Common.{◌∙◌, zero-add, length, filter_map}
use Rattle.registry_machine.specs.Entries.{ticket_of}
use Rattle.registry_machine.specs.Machine.{start}
use Rattle.registry_machine.proofs.Steps.{sound_start}
use Rattle.registry_machine.proofs.Tellings.{current_from, warming_from, acquired_from, last_from}
use Rattle.registry_machine.proofs.laws.states_tell_histories.Goals as goal

pub returns-clause-current : goal.returns-clause-current
returns-clause-current g c l h = current_from (start l) h

pub returns-clause-warming : goal.returns-clause-warming
returns-clause-warming g c l h legal = warming_from l (start l) h (sound_start l) legal

pub returns-clause-acquired : goal.returns-clause-acquired
returns-clause-acquired g c l h generation = acquired_from (start l) h generation ∙ zero-add (length (filter_map (ticket_of generation) h))

pub returns-clause-opened : goal.returns-clause-opened
returns-clause-opened g c l h legal = last_from l (start l) h legal
