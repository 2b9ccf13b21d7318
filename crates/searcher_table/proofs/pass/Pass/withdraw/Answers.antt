use Rattle.std.proofs.Common.{◌≡◌, ◌∙◌, [], None, refl, sym, ap, subst, arith}
use Rattle.registry_machine.specs.Callers.{mine}
use Rattle.searcher_table.specs.declared.board.Hand.{Hand}
use Rattle.searcher_table.specs.Steps.{Covers}
use Rattle.searcher_table.proofs.Gather.{joins}
use Rattle.searcher_table.proofs.Withdraw.{withdraws}
use Rattle.searcher_table.proofs.Passing.{Knows, knows, knows_joined, sees_joined, seen_more, none_more}
use Rattle.searcher_table.proofs.pass.Pass.withdraw.Goals as goal

pub join_seat-requires : goal.join_seat-requires
join_seat-requires g c =
    let pass = c.args.self.now in
    let call = c.args.call in
    let table = c.deref.result.now.shared in
    let same : pass.place.table_id ≡ table.table_id = pass.at_table ∙ sym (ap (λ t. t.shared.table_id) c.deref.ensures) in
    let words : table.table_id.words ≡ 1168 = ap (λ z. z.words) (sym same) ∙ pass.sized in (
      same,
      c.requires.table ∙ same,
      call.bare,
      omega arith,
      joins g.D.Shown.setting g.D.Shown.docs g.D.Shown.list table.key pass.place.id pass.place.me.0 call.place.id call.place.me.0,
    )

pub store-requires : goal.store-requires
store-requires g c =
    let pass = c.args.self.now in
    let call = c.args.call in
    let table = c.deref.result.now.shared in
    let same : pass.place.table_id ≡ table.table_id = pass.at_table ∙ sym (ap (λ t. t.shared.table_id) c.deref.ensures) in
    let words : table.table_id.words ≡ 1168 = ap (λ z. z.words) (sym same) ∙ pass.sized in
    let hand : Hand g.row.U.Denot = record { caller = call.caller; asked = call.asked } in
    let e = c.join_seat.ensures in
    let me = c.join_seat.new.seat.me in
    let caller : me.0.caller ≡ pass.caller = ap (λ m. m.0.caller) e.2 ∙ pass.numbered in
    let r = pass.ranged in
    let w = c.word-word.ensures in (
      e.0 ∙ same,
      omega arith,
      withdraws g.D.Shown.setting g.D.Shown.docs g.D.Shown.list table.key table.table_id.slots c.join_seat.new.seat.id me c.word-word.result hand
          (omega arith) (omega arith) (omega arith) (ap (λ m. m.0.hand) e.2 ∙ call.in_hand) (c.requires.caller ∙ sym caller) (ap (λ m. m.0.back) e.2 ∙ pass.none_back),
    )

pub returns-clause-pass : goal.returns-clause-pass
returns-clause-pass g c =
    let pass = c.args.self.now in
    let other = c.args.call.place.me.0 in
    let e = c.join_seat.ensures in
    let w = c.store.ensures.2 in
    let new = c.store.new.seat.me in
    let k = knows_joined pass.place.me.0 other (subst (λ m. Knows m.0 new.0 w.log w.pending None) e.2 (knows c.join_seat.new.seat.me new w.log w.pending None w.after)) in
    let s = sees_joined pass other w.log (subst (λ m. Covers m.0 w.log) e.2 w.covers) in
    record {
      more = seen_more pass _ w.log [] record { table = c.store.ensures.0 ∙ e.0; plan = refl; caller = refl } k.seen k.steps s
          (none_more pass w.log s (subst (λ m. mine m.0.caller w.log ≡ m.0.mine) e.2 w.mine));
      announced = k.announced ∙ subst (λ m. w.pending m.0.caller ≡ None) e.2 w.none;
    }
