use Rattle.table_rows.proofs.Chain.{pair}
use Rattle.table_rows.proofs.table.pair_of.Goals as goal

pub returns : goal.returns
returns c = pair c.args.registrar.now c.args.passes.items c.pop.new.self.items c.pop-2.new.self.items c.in_ok-two.two c.in_ok-one.one c.in_ok-two.ensures.items c.in_ok-one.ensures.items c.requires.0 c.requires.1
