use Rattle.view_cells.specs.Seats.{own_list}
use Rattle.shared_cells.proofs.Seats.{owns_none}
use Rattle.shared_cells.proofs.calls.look_up.Goals as goal

pub look_once-requires-clause-owns : goal.look_once-requires-clause-owns
look_once-requires-clause-owns g c =
    let asked = c.loop.invariant.2 in
    owns_none c.args.key.now c.args.need c.loop.again (own_list c.args.seat.now) (own_list c.loop.seat) asked.acts asked.before asked.list c.requires.owns
