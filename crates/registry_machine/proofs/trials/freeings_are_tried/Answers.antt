use Rattle.std.proofs.Common.{refl}
use Rattle.registry_machine.proofs.trials.freeings_are_tried.Goals as goal

-- caller 2 pins it
pub returns-clause-pinned : goal.returns-clause-pinned
returns-clause-pinned c h = h.1.1.1.1.1.0.not_pinned 2 refl
