use Rattle.std.proofs.Common.{ℕ, subst, sym}
use Rattle.table_rows.specs.TableTrials.{HasHeld}
use Rattle.table_rows.proofs.Chain.{two_more}
use Rattle.table_rows.proofs.desk.hold.Goals as goal

pub returns-in-Ok-clause-pass : goal.returns-in-Ok-clause-pass
returns-in-Ok-clause-pass c = (two_more c.args.pass c.in-Ok.pin c.release.result c.requires c.in-Ok.ensures.acquired c.release.ensures).0

pub returns-in-Ok-clause-held : goal.returns-in-Ok-clause-held
returns-in-Ok-clause-held c =
    let h = (two_more c.args.pass c.in-Ok.pin c.release.result c.requires c.in-Ok.ensures.acquired c.release.ensures).1 in
    subst (λ (z : ℕ × ℕ). HasHeld c.args.pass c.release.result z.0 z.1) (λ i. (sym c.generation.ensures i, sym c.ticket.ensures i)) h
