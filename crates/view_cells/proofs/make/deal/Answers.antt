use Rattle.std.proofs.Common.{ℕ, ◌+◌, [], ◌∷◌, length, sym, subst}
use Rattle.view_cells.specs.Seats.{view_of, seat_count, IsNew}
use Rattle.view_cells.specs.Making.{IsLast, AreFirst}
use Rattle.view_cells.proofs.Making.{one_more}
use Rattle.view_cells.proofs.make.deal.Goals as goal

pub returns-clause-made : goal.returns-clause-made
returns-clause-made g c =
    let view = view_of c.args.last in
    let count : ℕ = seat_count c.args.last in
    let seats = c.args.made.now.items in
    let made = c.requires.made in
    let h = c.in_ok-seat.ensures in
    let next = c.in_ok-seat.seat in
    let n : ℕ = length seats in
    let new : IsNew view count n (record { number = n; entries = [] } ∷ []) c.split_off.new.self =
    subst (λ (k : ℕ). IsNew view count k (record { number = k; entries = [] } ∷ []) c.split_off.new.self) made.last.number h.this in
    let rest : IsLast view count (n + 1) next = subst (λ (k : ℕ). IsLast view count k next) c.requires.next.0 h.seat in
    subst (λ items. AreFirst view count items next) (sym c.push_reserved.ensures.items) (one_more view count seats c.args.last c.split_off.new.self next made new h.stays h.table rest)
