use Rattle.std.proofs.Common.{sym, subst}
use Rattle.view_cells.specs.Seats.{IsSameSeat}
use Rattle.table_rows.proofs.SeatTrials.{sole_of_two, same_trans}
use Rattle.table_rows.proofs.seats.in_turn.Goals as goal

pub close-requires-clause-sole : goal.close-requires-clause-sole
close-requires-clause-sole c =
    let first = c.args.zero in
    let one = c.args.one in
    let z = c.zero-2-1.given in
    let same_z : IsSameSeat first z.0 = subst (λ s. IsSameSeat first s) (sym (z.1 (sym c.in-Ok.ensures.same_reference))) (same_trans c.in-Ok.ensures.taken.seat c.put_back.ensures.seat) in
    let same_o = same_trans c.holder_of-during.ensures.seat c.holder_of-after.ensures.seat in
    sole_of_two first one z.0 c.holder_of-after.new.seat c.join.new.self c.requires same_z same_o c.join.ensures
