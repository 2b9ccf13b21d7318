use Rattle.std.proofs.Common.{◌≡◌, ℕ, ◌∙◌, true, sym, ap, subst, arith}
use Rattle.view_cells.specs.Lists.{names}
use Rattle.view_cells.proofs.Gather.{joins}
use Rattle.view_cells.proofs.seat.Seat.join.Goals as goal

pub join_seat-requires : goal.join_seat-requires
join_seat-requires g c =
    let seat = c.args.self.now in
    let other = c.args.other in
    let table = c.deref.result.now.shared in
    let same : seat.place.table_id ≡ table.table_id = seat.at_table ∙ sym (ap (λ t. t.shared.table_id) c.deref.ensures) in
    let words : table.table_id.words ≡ 16 = ap (λ z. z.words) (sym same) ∙ seat.sized.0 in (
      same,
      c.requires.table ∙ same,
      c.requires.other_idle.1,
      omega arith,
      joins g.T.Fits.fits g.T.Fits.entries table.key seat.place.id seat.place.me.0 other.place.id other.place.me.0 c.requires.idle.0
          (subst (λ (n : ℕ). names n seat.place.me.0.lists ≡ true) seat.numbered seat.named) c.requires.other_idle.0,
    )
