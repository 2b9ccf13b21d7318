use Rattle.std.proofs.Common.{◌≡◌, ◌∙◌, sym, ap, arith}
use Rattle.searcher_table.proofs.HandOut.{tells_on}
use Rattle.searcher_table.proofs.tokens.Opening.note.Goals as goal

pub split_seat-place-requires : goal.split_seat-place-requires
split_seat-place-requires g c =
    let opening = c.args.self.now in
    let table = c.deref.result.now.shared in
    let same : opening.seat.table_id ≡ table.table_id = opening.at_table ∙ sym (ap (λ t. t.shared.table_id) c.deref.ensures) in
    let words : table.table_id.words ≡ 1168 = ap (λ z. z.words) (sym same) ∙ opening.sized in (
      same,
      omega arith,
      tells_on g.D.Shown.setting g.D.Shown.docs g.D.Shown.list table.key opening.seat.id opening.seat.me.0,
    )
