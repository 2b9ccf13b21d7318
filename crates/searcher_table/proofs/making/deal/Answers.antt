use Rattle.std.proofs.Common.{ℕ, sym, subst}
use Rattle.searcher_table.specs.Making.{ArePassesOf, IsNewPass}
use Rattle.searcher_table.proofs.Row.{one_more}
use Rattle.searcher_table.proofs.making.deal.Goals as goal

pub returns-clause-passes : goal.returns-clause-passes
returns-clause-passes g c =
    let r = c.args.registrar.now in
    let s = c.deal.new.self in
    let t = c.in_ok-pass.pass in
    let h = c.in_ok-pass.ensures in
    let row = c.args.passes.now.items in
    subst (λ items. ArePassesOf s items) (sym c.push_reserved.ensures.items)
    (one_more r s row t c.requires.passes h.registrar (subst (λ (n : ℕ). IsNewPass s n t) c.requires.next.1 h.pass))
