use Rattle.std.proofs.Common.{◌≡◌, ◌∙◌, [], Some, None, count_by, refl, sym, ap, arith}
use Rattle.searcher_table.specs.declared.board.Asked.{Asked}
use Rattle.searcher_table.specs.declared.board.Hand.{Hand}
use Rattle.registry_machine.specs.Callers.{mine}
use Rattle.searcher_table.specs.Counts.{is_acquire, pinned}
use Rattle.searcher_table.specs.Steps.{kept_back}
use Rattle.searcher_table.proofs.Announce.{announces, said_same}
use Rattle.searcher_table.proofs.HandOut.{splits}
use Rattle.searcher_table.proofs.Passing.{knows, knows_kept, sees, own_after, seen_more, none_more}
use Rattle.searcher_table.proofs.pass.Pass.announce.Goals as goal

-- src/pass.rt:63:9
pub compare_exchange_with-requires : goal.compare_exchange_with-requires
compare_exchange_with-requires g c =
    let pass = c.args.self.now in
    let table = c.deref.result.now.shared in
    let same : pass.place.table_id ≡ table.table_id = pass.at_table ∙ sym (ap (λ t. t.shared.table_id) c.deref.ensures) in
    let words : table.table_id.words ≡ 1168 = ap (λ z. z.words) (sym same) ∙ pass.sized in
    let asked : Asked g.row.U.Denot = record { call = c.args.call; content = c.args.content } in
    let n = pass.numbered in
    let r = pass.ranged in
    let w = c.word-word.ensures in (
      same,
      omega arith,
      announces g.D.Shown.setting g.D.Shown.docs g.D.Shown.list table.key table.table_id.slots pass.place.id pass.place.me c.word-word.result c.code-code.result asked
          (omega arith) (omega arith) (omega arith) c.code-code.ensures c.requires pass.none_back,
    )

-- src/pass.rt:64:13
pub split_seat-place-requires : goal.split_seat-place-requires
split_seat-place-requires g c =
    let pass = c.args.self.now in
    let table = c.deref.result.now.shared in
    let same : pass.place.table_id ≡ table.table_id = pass.at_table ∙ sym (ap (λ t. t.shared.table_id) c.deref.ensures) in
    let words : table.table_id.words ≡ 1168 = ap (λ z. z.words) (sym same) ∙ pass.sized in (
      c.compare_exchange_with.ensures.0 ∙ same,
      omega arith,
      splits g.D.Shown.setting g.D.Shown.docs g.D.Shown.list table.key c.compare_exchange_with.new.seat.id c.compare_exchange_with.new.seat.me.0,
    )

-- src/pass.rt:64:13
pub invariant_of-self : goal.invariant_of-self
invariant_of-self g c =
    let pass = c.args.self.now in
    let asked : Asked g.row.U.Denot = record { call = c.args.call; content = c.args.content } in
    let hand : Hand g.row.U.Denot = record { caller = pass.place.me.0.caller; asked = asked } in
    let a = c.compare_exchange_with.ensures.2 asked refl in
    let k = knows_kept (knows pass.place.me c.compare_exchange_with.new.seat.me a.log a.pending (Some hand) a.after) in
    let e = c.split_seat-place.ensures in
    let id : c.split_seat-place.new.seat.table_id ≡ pass.place.table_id = e.0 ∙ c.compare_exchange_with.ensures.0 in
    let own = ap (λ m. m.0.mine) e.2 ∙ k.mine ∙ a.mine in
    record {
      at_table = id ∙ pass.at_table;
      sized = ap (λ z. z.words) id ∙ pass.sized;
      told = ap (λ m. m.0.plan) e.2 ∙ k.plan ∙ pass.told;
      numbered = ap (λ m. m.0.caller) e.2 ∙ k.caller ∙ pass.numbered;
      ranged = pass.ranged;
      own = ap (λ m. m.0.mine) e.2 ∙ own_after pass (kept_back c.compare_exchange_with.new.seat.me.0) a.log a.pending None k ∙ ap (λ m. mine pass.caller m.0.seen) (sym e.2);
      tried = pass.tried ∙ sym (ap (count_by is_acquire) own);
      most = pass.most;
      within = pass.within;
      unpinned = ap (pinned pass.caller) own ∙ pass.unpinned;
      empty_handed = ap (λ m. m.0.hand) e.2;
      idle = ap (λ m. m.0.task) e.2 ∙ ap (λ m. m.0.task) a.after ∙ pass.idle;
      none_back = ap (λ m. m.0.back) e.2 ∙ k.back ∙ pass.none_back;
      bare = ap (λ m. m.1) e.2 ∙ ap (λ m. m.1) a.after ∙ pass.bare;
    }

-- src/pass.rt:67:20
pub asked-requires : goal.asked-requires
asked-requires g c = (record { call = c.args.call; content = c.args.content }, refl)

-- src/pass.rt:54:5
pub invariant_of-result : goal.invariant_of-result
invariant_of-result g c =
    let pass = c.args.self.now in
    let asked : Asked g.row.U.Denot = record { call = c.args.call; content = c.args.content } in
    let a = c.compare_exchange_with.ensures.2 asked refl in
    let e = c.split_seat-place.ensures in
    record {
      in_hand = ap (λ m. m.0.hand) e.4 ∙ ap (λ m. m.0.hand) a.after ∙ (λ i. Some (record { caller = pass.numbered i; asked = said_same asked c.asked.result c.asked.ensures i }));
      ranged = pass.ranged;
      bare = ap (λ m. m.1) e.4;
    }

-- src/pass.rt:54:5
pub returns-clause-pass : goal.returns-clause-pass
returns-clause-pass g c =
    let pass = c.args.self.now in
    let asked : Asked g.row.U.Denot = record { call = c.args.call; content = c.args.content } in
    let hand : Hand g.row.U.Denot = record { caller = pass.place.me.0.caller; asked = asked } in
    let a = c.compare_exchange_with.ensures.2 asked refl in
    let k = knows_kept (knows pass.place.me c.compare_exchange_with.new.seat.me a.log a.pending (Some hand) a.after) in
    let e = c.split_seat-place.ensures in
    let s = sees pass a.log a.covers in
    record {
      more = seen_more pass _ a.log [] record { table = e.0 ∙ c.compare_exchange_with.ensures.0; plan = refl; caller = refl } (ap (λ m. m.0.seen) e.2 ∙ k.seen) (ap (λ m. m.0.steps) e.2 ∙ k.steps) s (none_more pass a.log s a.mine);
      announced = ap (λ m. m.0.announced) e.2 ∙ k.announced ∙ a.pending_is;
    }
