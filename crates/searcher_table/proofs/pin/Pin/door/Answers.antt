use Rattle.std.proofs.Common.{refl}
use Rattle.searcher_table.proofs.Lending.{same_pin}
use Rattle.searcher_table.proofs.pin.Pin.door.Goals as goal

-- the pin's facts say nothing of the door
pub returns : goal.returns
returns g c = ((refl, λ w. same_pin g.row.D g.row.U g.row.D-Setting g.row.D-Docs g.row.D-Deed c.args.self.now w _), record { lends = tt; value = refl })
