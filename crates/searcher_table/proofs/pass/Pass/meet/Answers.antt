use Rattle.std.proofs.Common.{◌≡◌, ◌≤◌, ◌∙◌, refl, sym, ap, subst, arith}
use Rattle.registry_machine.specs.Callers.{mine}
use Rattle.searcher_table.specs.Views.{StartsWith, GoesOn}
use Rattle.searcher_table.specs.Steps.{Covers}
use Rattle.searcher_table.proofs.Passing.{Knows, knows, knows_joined, sees_joined, has_looked}
use Rattle.searcher_table.proofs.Gather.{joins}
use Rattle.searcher_table.proofs.Look.{looks}
use Rattle.searcher_table.proofs.pass.Pass.meet.Goals as goal

pub join_seat-requires : goal.join_seat-requires
join_seat-requires g c =
    let pass = c.args.self.now in
    let note = c.args.note in
    let table = c.deref.result.now.shared in
    let same : pass.place.table_id ≡ table.table_id = pass.at_table ∙ sym (ap (λ t. t.shared.table_id) c.deref.ensures) in
    let words : table.table_id.words ≡ 1168 = ap (λ z. z.words) (sym same) ∙ pass.sized in (
      same,
      c.requires ∙ same,
      note.bare,
      omega arith,
      joins g.D.Shown.setting g.D.Shown.docs g.D.Shown.list table.key pass.place.id pass.place.me.0 note.place.id note.place.me.0,
    )

pub load-requires : goal.load-requires
load-requires g c =
    let pass = c.args.self.now in
    let table = c.deref.result.now.shared in
    let same : pass.place.table_id ≡ table.table_id = pass.at_table ∙ sym (ap (λ t. t.shared.table_id) c.deref.ensures) in
    let words : table.table_id.words ≡ 1168 = ap (λ z. z.words) (sym same) ∙ pass.sized in (
      c.join_seat.ensures.0 ∙ same,
      (let w = c.word-word.ensures in omega arith),
      looks g.D.Shown.setting g.D.Shown.docs g.D.Shown.list table.key table.table_id.slots c.join_seat.new.seat.id c.join_seat.new.seat.me c.word-word.result,
    )

pub returns : goal.returns
returns g c =
    let pass = c.args.self.now in
    let other = c.args.note.place.me.0 in
    let e = c.join_seat.ensures in
    let l = c.load.ensures.2 in
    let held = c.join_seat.new.seat.me.0.hand in
    let new = c.load.new.seat.me in
    let k = knows_joined pass.place.me.0 other (subst (λ m. Knows m.0 new.0 l.log l.pending held) e.2 (knows c.join_seat.new.seat.me new l.log l.pending held l.after)) in
    let v = subst (λ m. Covers m.0 l.log) e.2 l.covers in
    record {
      looked = has_looked pass _ l.log l.pending held record { table = c.load.ensures.0 ∙ e.0; plan = refl; caller = refl } k (sees_joined pass other l.log v)
          (subst (λ m. 1 ≤ m.0.caller → GoesOn m.0.caller m.0.mine m.0.announced (mine m.0.caller l.log) (l.pending m.0.caller)) e.2 l.calls);
      covers = subst (λ s. StartsWith s other.seen) (sym k.seen) v.told;
    }
