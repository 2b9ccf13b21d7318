use Rattle.shared_cells.specs.Seated.{HasAsked}
use Rattle.shared_cells.proofs.calls.look_up.Given as goal

abbrev pub invariant-loop : goal.invariant-loop
invariant-loop g l =
    (goal.iterator-loop g).can_next l.iterator' × (goal.iterator-loop g).is_finite l.iterator' × HasAsked l.key l.need l.again l.initial.seat l.seat
