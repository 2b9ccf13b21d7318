use Rattle.std.proofs.Common.{refl}
use Rattle.registry_core.proofs.Kept.{stays}
use Rattle.registry_core.proofs.locked.Locked.change.Goals as goal

pub returns-clause-kept : goal.returns-clause-kept
returns-clause-kept g c = stays g.W.Writer c.execute-result.new.self _ c.execute-result.ensures.kept c.note-note.ensures.registrar refl refl refl refl refl refl refl
