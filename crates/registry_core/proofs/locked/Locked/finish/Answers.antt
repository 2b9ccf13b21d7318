use Rattle.std.proofs.Common.{refl, ◌∙◌}
use Rattle.searcher_table.specs.Passes.{sighted}
use Rattle.registry_core.proofs.Kept.{stays}
use Rattle.registry_core.proofs.Finishings.{looks, end_past}
use Rattle.registry_core.proofs.locked.Locked.finish.Goals as goal

pub publish-finished-requires-clause-kept : goal.publish-finished-requires-clause-kept
publish-finished-requires-clause-kept g c = looks g.W.Writer c.args.self.now _ c.requires.kept c.meet.ensures.looked refl refl refl refl refl refl refl

pub returns-clause-kept : goal.returns-clause-kept
returns-clause-kept g c = stays g.W.Writer c.publish-finished.new.self _ c.publish-finished.ensures.kept c.note-note.ensures.registrar refl refl refl refl refl refl refl

pub returns-clause-ended : goal.returns-clause-ended
returns-clause-ended g c = end_past (sighted c.args.note) (sighted c.note-note.result) c.publish-finished.ensures.ended c.meet.ensures.covers (c.note-note.ensures.note.seen ∙ c.note-note.ensures.registrar.seen)
