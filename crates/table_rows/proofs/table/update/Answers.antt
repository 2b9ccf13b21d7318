use Rattle.std.proofs.Common.{◌∙◌}
use Rattle.table_rows.proofs.Chain.{one_more}
use Rattle.table_rows.proofs.table.update.Goals as goal

pub returns-clause-more : goal.returns-clause-more
returns-clause-more c =
    let a = c.announce-call.ensures in
    let e = c.execute_update-done.ensures in
    let n = c.note-note.ensures in
    one_more c.args.pass.now c.announce-call.new.self c.meet.new.self c.args.content c.announce-call.result c.args.registrar.now c.execute_update-done.new.self c.note-note.new.self c.note-note.result
    a.pass a.call e.entry n.registrar n.note c.meet.ensures (a.call.table ∙ a.pass.more.pass.table ∙ c.requires.ready.table)
