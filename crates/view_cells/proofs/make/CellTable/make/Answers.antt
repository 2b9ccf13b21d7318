use Rattle.std.proofs.Common.{◌≡◌, ◌+◌, length, sym, subst, arith}
use Rattle.view_cells.specs.Seats.{AreSeats}
use Rattle.view_cells.proofs.Making.{all_made}
use Rattle.view_cells.proofs.make.CellTable.make.Goals as goal

pub returns-clause-seats : goal.returns-clause-seats
returns-clause-seats g c =
    let i = c.loop-next.invariant in
    let s = c.requires.seats in
    let seats = c.loop-next.made.items in
    let full : c.args.seats ≡ length seats + 1 = (let last = c.loop-next-test.false in let room = c.loop-next.auto.next-end s.0 in let count = i.count in omega arith) in
    subst (λ xs. AreSeats c.args.view.now c.args.seats xs) (sym c.push_reserved.ensures.items) (all_made c.args.view.now c.args.seats seats c.loop-next.last i.made full)
