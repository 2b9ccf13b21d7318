use Rattle.std.proofs.Common.{drop, length}
use Rattle.table_rows.proofs.SeatTrials.{worked_row}
use Rattle.table_rows.proofs.seats.shared_log.Goals as goal

pub close_all-requires-clause-row : goal.close_all-requires-clause-row
close_all-requires-clause-row g c =
    let made = c.in-Ok.seats in
    let new = c.all_rounds.new.seats in
    worked_row 10000 4 made.len made.items c.as_mut_slice.result.now new (drop (length new) made.items) c.in-Ok.ensures.seats c.in-Ok.ensures.count c.as_mut_slice.ensures.value made.ok.0
    c.all_rounds.ensures.len c.all_rounds.ensures.each
