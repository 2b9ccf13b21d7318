use Rattle.std.proofs.Common.{◌≡◌, ◌∙◌, [], ◌∷◌, ◌++◌, refl, sym, ap, arith}
use Rattle.searcher_table.specs.Counts.{pinned}
use Rattle.searcher_table.proofs.TakeBack.{takes_back}
use Rattle.searcher_table.proofs.registrar.Registrar.take_back.Goals as goal

pub join_seat-requires : goal.join_seat-requires
join_seat-requires g c =
    let registrar = c.args.self.now in
    let pass = c.args.pass in
    let table = c.deref.result.now.shared in
    let same : registrar.place.table_id ≡ table.table_id = registrar.at_table ∙ sym (ap (λ t. t.shared.table_id) c.deref.ensures) in
    let words : table.table_id.words ≡ 1168 = ap (λ z. z.words) (sym same) ∙ registrar.sized in
    let n = pass.numbered in
    let r = pass.ranged in (
      same,
      c.requires.table ∙ same,
      pass.bare,
      omega arith,
      takes_back g.D.Shown.setting g.D.Shown.docs g.D.Shown.list table.key registrar.place.id registrar.place.me.0 pass.place.id pass.place.me.0 (omega arith) c.requires.none pass.idle (ap (λ m. pinned m pass.place.me.0.mine) pass.numbered ∙ pass.unpinned),
    )

pub returns : goal.returns
returns g c =
    let pass = c.args.pass in
    let e = c.join_seat.ensures in
    record {
      registrar = record { table = e.0; plan = refl };
      seen = ap (λ m. m.0.seen) e.2;
      back = ap (λ m. m.0.back) e.2 ∙ (λ i. c.args.self.now.place.me.0.back ++ record { caller = pass.numbered i; mine = pass.place.me.0.mine } ∷ []);
    }
