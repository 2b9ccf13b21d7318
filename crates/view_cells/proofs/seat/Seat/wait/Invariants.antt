use Rattle.view_cells.specs.Seats.{IsWaiting}
use Rattle.view_cells.proofs.seat.Seat.wait.Given as goal

abbrev pub invariant-loop : goal.invariant-loop
invariant-loop g l =
    (goal.iterator-loop g).can_next l.iterator' × (goal.iterator-loop g).is_finite l.iterator' × IsWaiting l.initial.self l.self
