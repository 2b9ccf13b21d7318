use Rattle.std.proofs.Common.{◌≡◌, ℕ, ◌+◌, ◌∙◌, true, sym, ap, subst, arith}
use Rattle.view_cells.specs.Lists.{names}
use Rattle.view_cells.proofs.Frame.{has_slot}
use Rattle.view_cells.proofs.Take.{takes_or_not}
use Rattle.view_cells.proofs.seat.Seat.grab.Goals as goal

-- src/seat.rt:55:13
pub compare_exchange-found-requires : goal.compare_exchange-found-requires
compare_exchange-found-requires g c =
    let seat = c.args.self.now in
    let table = c.deref.result.now.shared in
    let same : seat.place.table_id ≡ table.table_id = seat.at_table ∙ sym (ap (λ t. t.shared.table_id) c.deref.ensures) in
    let words : table.table_id.words ≡ 16 = ap (λ z. z.words) (sym same) ∙ seat.sized.0 in (
      same,
      omega arith,
      takes_or_not g.T.Fits.fits g.T.Fits.entries table.key table.table_id.slots seat.place.id seat.place.me (c.from-mine.result + 1) (ap (λ (n : ℕ). n + 1) (c.from-mine.ensures ∙ seat.numbered))
          c.requires.0 c.requires.1 (subst (λ (n : ℕ). names n seat.place.me.0.lists ≡ true) seat.numbered seat.named),
    )

-- src/seat.rt:60:12
pub exchange-requires : goal.exchange-requires
exchange-requires g c =
    let seat = c.args.self.now in
    let table = c.deref.result.now.shared in
    let e = c.compare_exchange-found.ensures in
    let same : seat.place.table_id ≡ table.table_id = seat.at_table ∙ sym (ap (λ t. t.shared.table_id) c.deref.ensures) in
    let took = e.2.free c.if-found-ne0.false in
    (e.0 ∙ same, has_slot c.compare_exchange-found.new.seat.me _ 0 _ took.1)
