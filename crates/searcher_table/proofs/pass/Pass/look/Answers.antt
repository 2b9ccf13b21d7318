use Rattle.std.proofs.Common.{◌≡◌, ◌∙◌, sym, ap, arith}
use Rattle.std.proofs.Common.{refl}
use Rattle.searcher_table.proofs.Look.{looks}
use Rattle.searcher_table.proofs.Passing.{knows, sees, has_looked}
use Rattle.searcher_table.proofs.pass.Pass.look.Goals as goal

pub load-requires : goal.load-requires
load-requires g c =
    let pass = c.args.self.now in
    let table = c.deref.result.now.shared in
    let same : pass.place.table_id ≡ table.table_id = pass.at_table ∙ sym (ap (λ t. t.shared.table_id) c.deref.ensures) in
    let words : table.table_id.words ≡ 1168 = ap (λ z. z.words) (sym same) ∙ pass.sized in (
      same,
      (let w = c.word-word.ensures in omega arith),
      looks g.D.Shown.setting g.D.Shown.docs g.D.Shown.list table.key table.table_id.slots pass.place.id pass.place.me c.word-word.result,
    )

pub returns : goal.returns
returns g c =
    let e = c.load.ensures in
    let l = e.2 in
    has_looked c.args.self.now _ l.log l.pending c.args.self.now.place.me.0.hand record { table = e.0; plan = refl; caller = refl }
    (knows c.args.self.now.place.me c.load.new.seat.me l.log l.pending c.args.self.now.place.me.0.hand l.after) (sees c.args.self.now l.log l.covers) l.calls
