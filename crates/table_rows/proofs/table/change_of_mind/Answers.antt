use Rattle.std.proofs.Common.{◌∙◌}
use Rattle.table_rows.proofs.Chain.{same_own}
use Rattle.table_rows.proofs.table.change_of_mind.Goals as goal

pub returns-clause-mine : goal.returns-clause-mine
returns-clause-mine c =
    let a = c.announce-call.ensures.pass in
    let w = c.withdraw.ensures.pass in
    same_own c.announce-call.new.self c.withdraw.new.self w.more ∙ same_own c.args.pass.now c.announce-call.new.self a.more
