use Rattle.table_rows.specs.SeatTrials.{Worked}
use Rattle.table_rows.proofs.seats.rounds.Given as goal

abbrev pub invariant-loop-call : goal.invariant-loop-call
invariant-loop-call g l = Worked l.initial.seat l.seat
