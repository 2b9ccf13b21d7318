use Rattle.registry_core.proofs.EndedBy.{finished}
use Rattle.registry_core.proofs.caller.Caller.finish.Goals as goal

pub returns : goal.returns
returns g c =
    let s = c.args.self.now in
    finished g.D.Shown.list s _ c.note-note.new.self c.note-note.result c.under_lock-finished.result.1 c.args.fresh c.under_lock-finished.result.0
    c.under_lock-finished.ensures.seat s.free c.note-note.ensures.pass c.note-note.ensures.note c.under_lock-finished.ensures.ended c.meet.ensures c.under_lock-finished.ensures.own
