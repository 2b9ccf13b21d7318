use Rattle.table_rows.proofs.SeatTrials.{pair}
use Rattle.table_rows.proofs.seats.pair_of.Goals as goal

pub returns : goal.returns
returns c = pair c.args.seats.items c.pop.new.self.items c.pop-2.new.self.items c.in_ok-one.one c.in_ok-zero.zero c.in_ok-one.ensures.items c.in_ok-zero.ensures.items c.requires.0 c.requires.1
