use Rattle.std.proofs.Common.{◌≡◌, ◌/◌, ◌%◌, ◌∙◌, cond, count_by, eq-eqb, Some, refl, sym, ap, subst, arith}
use Rattle.registry_machine.specs.declared.entry.Entry.TheVariants.{Acquire}
use Rattle.registry_machine.specs.Callers.{mine}
use Rattle.searcher_table.specs.declared.board.Cell.TheVariants.{Full, Empty}
use Rattle.searcher_table.specs.declared.board.Known.{Known}
use Rattle.searcher_table.specs.Counts.{is_acquire, pinned}
use Rattle.searcher_table.specs.Doors.{cell_of, shown_in, left_in, IsDoor}
use Rattle.searcher_table.specs.Warming.{IsOpenFor}
use Rattle.searcher_table.specs.Passes.{plan_of}
use Rattle.searcher_table.specs.Pins.{HasEntered}
use Rattle.searcher_table.proofs.Filling.{has_out}
use Rattle.searcher_table.proofs.Taking.{same_out, same_door, out_is}
use Rattle.searcher_table.proofs.Pinning.{kept_early, kept_acquired, slot_acquired}
use Rattle.searcher_table.proofs.Acquire.{acquires_current}
use Rattle.searcher_table.proofs.pass.Pass.acquire_once.Goals as goal

pub fetch_add-word-requires : goal.fetch_add-word-requires
fetch_add-word-requires g c =
    let pass = c.args.self in
    let table = c.deref.result.now.shared in
    let same : pass.place.table_id ≡ table.table_id = pass.at_table ∙ sym (ap (λ t. t.shared.table_id) c.deref.ensures) in
    let words : table.table_id.words ≡ 1168 = ap (λ z. z.words) (sym same) ∙ pass.sized in
    let n = pass.numbered in
    let r = pass.ranged in (
      same,
      omega arith,
      acquires_current g.D.Shown.setting g.D.Shown.docs g.D.Shown.list table.key table.table_id.slots pass.place.id pass.place.me (omega arith) (omega arith) pass.none_back (pass.told ∙ ap (λ t. Some t.shared.key) (sym c.deref.ensures))
          (ap (λ d. pinned d pass.place.me.0.mine) pass.numbered ∙ pass.unpinned) pass.idle
          (let a = c.requires in let t = pass.tried in let b = pass.most ∙ ap (λ t. t.shared.key.budget) (sym c.deref.ensures) in omega arith),
    )

pub invariant_of-result : goal.invariant_of-result
invariant_of-result g c =
    let pass = c.args.self in
    let e = c.fetch_add-word.ensures in
    let new = c.fetch_add-word.new.seat.me in
    let k = kept_early (plan_of pass) pass.caller c.fetch_add-word.result pass.place.me (new.0, pass.place.me.1) pass.told pass.numbered pass.ranged.0 e.2.made c.if-generation-eq0.true in
    record {
      at_table = e.0 ∙ pass.at_table;
      sized = ap (λ z. z.words) e.0 ∙ pass.sized;
      told = k.plan ∙ pass.told;
      numbered = k.caller ∙ pass.numbered;
      ranged = pass.ranged;
      own = k.entered.own;
      tried = (let a = k.tries in let b = pass.tried in omega arith);
      most = pass.most;
      within = (let a = c.requires in omega arith);
      unpinned = k.pin ∙ pass.unpinned;
      empty_handed = k.hand;
      idle = k.task_is ∙ pass.idle;
      none_back = k.back ∙ pass.none_back;
      bare = e.2.early c.if-generation-eq0.true ∙ pass.bare;
    }

pub returns-then-generation-eq0-clause-early : goal.returns-then-generation-eq0-clause-early
returns-then-generation-eq0-clause-early g c =
    let pass = c.args.self in
    let e = c.fetch_add-word.ensures in
    let new = c.fetch_add-word.new.seat.me in
    let k = kept_early (plan_of pass) pass.caller c.fetch_add-word.result pass.place.me (new.0, pass.place.me.1) pass.told pass.numbered pass.ranged.0 e.2.made c.if-generation-eq0.true in
    record {
      same = record { table = e.0; plan = refl; caller = refl };
      left = (let a = c.requires in let t = pass.tried in let b = pass.most in omega arith);
      entered = k.entered;
    }

pub exchange-requires : goal.exchange-requires
exchange-requires g c =
    let pass = c.args.self in
    let n = c.fetch_add-word.result in
    let e = c.fetch_add-word.ensures in
    let new = c.fetch_add-word.new.seat.me in
    let slot = n / 4294967296 % 128 in
    let d = e.2.lent c.if-generation-eq0.false in
    let table = c.deref-2.result.now.shared in
    let same : pass.place.table_id ≡ table.table_id = pass.at_table ∙ sym (ap (λ t. t.shared.table_id) c.deref-2.ensures) in (
      e.0 ∙ same,
      (Full d.door, has_out new.1 pass.place.me.1 (cell_of slot pass.place.me.0.caller) (cell_of slot pass.caller) (Full d.door) d.out (ap (cell_of slot) pass.numbered)),
    )

pub door-door-requires : goal.door-door-requires
door-door-requires g c =
    let pass = c.args.self in
    let e = c.fetch_add-word.ensures in
    let d = e.2.lent c.if-generation-eq0.false in
    (d.door, same_out _ _ _ _ _ _ _ c.exchange.ensures.2 d.out)

pub invariant_of-result-2 : goal.invariant_of-result-2
invariant_of-result-2 g c =
    let pass = c.args.self in
    let n = c.fetch_add-word.result in
    let e = c.fetch_add-word.ensures in
    let some = c.if-generation-eq0.false in
    let new = c.fetch_add-word.new.seat.me in
    let slot = n / 4294967296 % 128 in
    let k = kept_acquired (plan_of pass) pass.caller n pass.place.me (new.0, pass.place.me.1) pass.told pass.numbered pass.ranged.0 e.2.made some in
    let here = slot_acquired (plan_of pass) pass.caller n pass.place.me (new.0, pass.place.me.1) pass.told pass.numbered pass.ranged.0 e.2.made (e.2.tells (plan_of pass) pass.told) some in
    let d = e.2.lent some in
    let last = c.exchange.new.seat.me in
    let is = out_is last new pass.place.me.1 (cell_of slot pass.place.me.0.caller) (cell_of slot pass.caller) (Full d.door) Empty d.out pass.bare c.exchange.ensures.3 in
    let v : last.0 ≡ new.0 = ap (λ m. m.0) is in
    let id : c.exchange.new.seat.table_id ≡ pass.place.table_id = c.exchange.ensures.0 ∙ e.0 in
    record {
      at_table = id ∙ pass.at_table;
      sized = ap (λ z. z.words) id ∙ pass.sized;
      told = ap (λ m. m.plan) v ∙ k.plan ∙ pass.told;
      numbered = ap (λ m. m.caller) v ∙ k.caller ∙ pass.numbered;
      ranged = pass.ranged;
      own = subst (λ m. m.mine ≡ mine pass.caller m.seen) (sym v) k.entered.own;
      tried = (let a = k.tries in let b = pass.tried in let d = ap (λ m. count_by is_acquire m.mine) v in omega arith);
      most = pass.most;
      within = (let a = c.requires in omega arith);
      holds = ap (λ m. pinned pass.caller m.mine) v ∙ k.pin ∙ ap (λ b. cond b (Some (n / 549755813888)) (pinned pass.caller pass.place.me.0.mine)) (eq-eqb pass.caller pass.caller refl);
      opened = subst (λ m. IsOpenFor (plan_of pass) m.seen slot (n / 549755813888)) (sym v) here.0;
      below = here.1;
      empty_handed = ap (λ m. m.hand) v ∙ k.hand;
      idle = ap (λ m. m.task) v ∙ k.task_is ∙ pass.idle;
      none_back = ap (λ m. m.back) v ∙ k.back ∙ pass.none_back;
      out = ap (λ m. m.1) is;
    }

pub returns-clause-acquired : goal.returns-clause-acquired
returns-clause-acquired g c =
    let pass = c.args.self in
    let n = c.fetch_add-word.result in
    let e = c.fetch_add-word.ensures in
    let some = c.if-generation-eq0.false in
    let new = c.fetch_add-word.new.seat.me in
    let k = kept_acquired (plan_of pass) pass.caller n pass.place.me (new.0, pass.place.me.1) pass.told pass.numbered pass.ranged.0 e.2.made some in
    let last = c.exchange.new.seat.me in
    let v : last.0 ≡ new.0 = ap (λ m. m.0) c.exchange.ensures.3 in
    record {
      same = record { table = c.exchange.ensures.0 ∙ e.0; plan = refl; caller = refl };
      left = (let a = c.requires in let t = pass.tried in let b = pass.most in omega arith);
      entered = subst (λ m. HasEntered (plan_of pass) pass.caller pass.place.me.0 m (Acquire pass.caller (n / 549755813888) (n % 4294967296))) (sym v) k.entered;
    }

pub returns-clause-door : goal.returns-clause-door
returns-clause-door g c =
    let pass = c.args.self in
    let n = c.fetch_add-word.result in
    let e = c.fetch_add-word.ensures in
    let new = c.fetch_add-word.new.seat.me in
    let d = e.2.lent c.if-generation-eq0.false in
    let v : c.exchange.new.seat.me.0 ≡ new.0 = ap (λ m. m.0) c.exchange.ensures.3 in
    let same : d.door ≡ c.door-door.result = same_door _ _ (sym (same_out _ _ _ _ _ _ _ c.exchange.ensures.2 d.out) ∙ c.door-door.ensures) in
    subst (λ (z : Known g.row.D-Setting.Denot g.row.U.Denot g.row.D-Docs.Denot g.row.D-Deed.Denot × g.row.D.Denot). IsDoor g.D.Shown.setting g.D.Shown.docs (plan_of pass) (shown_in z.0.seen (n / 549755813888)) z.1) (λ i. (sym v i, same i)) (d.is_door (plan_of pass) pass.told).0

pub returns-clause-left : goal.returns-clause-left
returns-clause-left g c =
    let pass = c.args.self in
    let n = c.fetch_add-word.result in
    let e = c.fetch_add-word.ensures in
    let new = c.fetch_add-word.new.seat.me in
    let d = e.2.lent c.if-generation-eq0.false in
    let v : c.exchange.new.seat.me.0 ≡ new.0 = ap (λ m. m.0) c.exchange.ensures.3 in
    let same : d.door ≡ c.door-door.result = same_door _ _ (sym (same_out _ _ _ _ _ _ _ c.exchange.ensures.2 d.out) ∙ c.door-door.ensures) in
    subst (λ (z : Known g.row.D-Setting.Denot g.row.U.Denot g.row.D-Docs.Denot g.row.D-Deed.Denot × g.row.D.Denot). g.D.Shown.list z.1 ≡ left_in z.0.seen (n / 549755813888) pass.caller) (λ i. (sym v i, same i)) ((d.is_door (plan_of pass) pass.told).1 ∙ ap (λ b. left_in new.0.seen (n / 549755813888) b) pass.numbered)
