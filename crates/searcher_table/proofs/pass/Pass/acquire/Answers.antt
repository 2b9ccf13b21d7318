use Rattle.std.proofs.Common.{refl, arith}
use Rattle.searcher_table.proofs.pass.Pass.acquire.Goals as goal

pub returns-then-self-clause-refused : goal.returns-then-self-clause-refused
returns-then-self-clause-refused g c =
    let pass = c.args.self in
    let spent = c.if-self.true in
    let most = pass.most in
    let within = pass.within in
    record { same = refl; told = pass.tried; spent = omega arith }
