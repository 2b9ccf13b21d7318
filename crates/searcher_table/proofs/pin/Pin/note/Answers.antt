use Rattle.std.proofs.Common.{◌≡◌, ◌∙◌, sym, ap, arith}
use Rattle.searcher_table.proofs.HandOut.{splits}
use Rattle.searcher_table.proofs.pin.Pin.note.Goals as goal

pub split_seat-place-requires : goal.split_seat-place-requires
split_seat-place-requires g c =
    let pin = c.args.self.now in
    let table = c.deref.result.now.shared in
    let same : pin.place.table_id ≡ table.table_id = pin.at_table ∙ sym (ap (λ t. t.shared.table_id) c.deref.ensures) in
    let words : table.table_id.words ≡ 1168 = ap (λ z. z.words) (sym same) ∙ pin.sized in (
      same,
      omega arith,
      splits g.D.Shown.setting g.D.Shown.docs g.D.Shown.list table.key pin.place.id pin.place.me.0,
    )
