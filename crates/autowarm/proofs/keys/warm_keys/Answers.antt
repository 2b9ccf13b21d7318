use Rattle.view_cells.specs.Seats.{own_list}
use Rattle.autowarm.proofs.Listing.{listed_none}
use Rattle.autowarm.proofs.keys.warm_keys.Goals as goal

pub returns-clause-owns : goal.returns-clause-owns
returns-clause-owns g c =
    listed_none 4096 c.in_ok-keys.keys.items (own_list c.args.seat.now) (own_list c.recent.new.seat) c.in_ok-keys.ensures.list c.requires.owns
