use Rattle.std.proofs.Common.{◌≡◌, drop, false}
use Rattle.std.specs.List.{position_from}
use Rattle.std.specs.Option.{option_map_or}
use Rattle.cache_machine.specs.Machine.{owner_of}
use Rattle.cache_cells.proofs.cells.owner_among.Given as goal

abbrev pub invariant-loop-seat : goal.invariant-loop-seat
invariant-loop-seat g l = owner_of g.K.PartialEq.eq l.key l.pending ≡ position_from (λ o. option_map_or (g.K.PartialEq.eq l.key) o false) l.seat (drop l.seat l.pending)
