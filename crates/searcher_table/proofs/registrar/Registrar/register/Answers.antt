use Rattle.std.proofs.Common.{◌≡◌, ◌∙◌, ◌≤◌, [], ◌∷◌, length, length-append, None, IfSome, refl, sym, ap, subst, arith}
use Rattle.registry_machine.specs.declared.entry.Entry.TheVariants.{Finish}
use Rattle.registry_machine.specs.Legal.{state_of}
use Rattle.searcher_table.specs.Words.{limits}
use Rattle.searcher_table.specs.Views.{HasNoPlaceSince}
use Rattle.searcher_table.specs.Steps.{left_by, TellsCurrent}
use Rattle.searcher_table.specs.Registrars.{plan_of, seen_of}
use Rattle.searcher_table.proofs.Quiet.{quiet_here}
use Rattle.searcher_table.proofs.Current.{none_is, some_is}
use Rattle.searcher_table.proofs.Gather.{joins}
use Rattle.searcher_table.proofs.Ending.{publishes, left_low, left_some, few_left, least_of}
use Rattle.searcher_table.proofs.Registering.{goes, executed, executed_log}
use Rattle.searcher_table.proofs.Settled.{less_finish, one_back}
use Rattle.searcher_table.proofs.registrar.Registrar.register.Goals as goal

pub join_seat-requires : goal.join_seat-requires
join_seat-requires g c =
    let registrar = c.args.self.now in
    let o = c.args.opening in
    let table = c.deref.result.now.shared in
    let same : registrar.place.table_id ≡ table.table_id = registrar.at_table ∙ sym (ap (λ t. t.shared.table_id) c.deref.ensures) in
    let words : table.table_id.words ≡ 1168 = ap (λ z. z.words) (sym same) ∙ registrar.sized in (
      same,
      c.requires.table ∙ same,
      o.bare,
      omega arith,
      joins g.D.Shown.setting g.D.Shown.docs g.D.Shown.list table.key registrar.place.id registrar.place.me.0 o.seat.id o.seat.me.0,
    )

pub swap-word-requires : goal.swap-word-requires
swap-word-requires g c =
    let registrar = c.args.self.now in
    let o = c.args.opening in
    let table = c.deref.result.now.shared in
    let same : registrar.place.table_id ≡ table.table_id = registrar.at_table ∙ sym (ap (λ t. t.shared.table_id) c.deref.ensures) in
    let words : table.table_id.words ≡ 1168 = ap (λ z. z.words) (sym same) ∙ registrar.sized in
    let e = c.join_seat.ensures in
    let me = c.join_seat.new.seat.me in
    let least = least_of (state_of (limits (plan_of registrar)) (seen_of registrar)).current registrar.current o.generation registrar.current_is c.requires.latest in (
      e.0 ∙ same,
      omega arith,
      publishes g.D.Shown.setting g.D.Shown.docs g.D.Shown.list table.key g.E.Ends.list table.table_id.slots c.join_seat.new.seat.id me 8 _ (record { generation = o.generation; slot = o.slot }) refl (omega arith) (ap (λ m. m.0.registrar) e.2 ∙ registrar.role) (ap (λ m. m.0.task) e.2 ∙ registrar.idle)
          (ap (λ m. m.0.fresh) e.2 ∙ o.warming) (subst (λ z. IfSome z (λ h. h ≤ o.generation)) (λ i. (state_of (limits (sym (ap (λ t. t.shared.key) c.deref.ensures) i)) (sym (ap (λ m. m.0.seen) e.2) i)).current) least),
    )

pub push_reserved-requires : goal.push_reserved-requires
push_reserved-requires g c =
    let registrar = c.args.self.now in
    let o = c.args.opening in
    let e = c.join_seat.ensures in
    let me = c.join_seat.new.seat.me in
    let new = c.swap-word.new.seat.me in
    let word = c.swap-word.result in
    let y = c.swap-word.ensures.2 (record { generation = o.generation; slot = o.slot }) (ap (λ m. m.0.fresh) e.2 ∙ o.warming) in
    let x = executed registrar registrar.place.me.0 o.seat.me.0 me new (Finish o.generation g.E.Ends.list) (left_by word) None (goes registrar) (ap (λ m. m.0) e.2) y.executed in
    let plan = ap (λ m. m.0.plan) e.2 ∙ registrar.told in
    let t = subst (λ l. TellsCurrent (limits (plan_of registrar)) l word) (sym (executed_log registrar registrar.place.me.0 o.seat.me.0 me new (Finish o.generation g.E.Ends.list) (left_by word) None (goes registrar) (ap (λ m. m.0) e.2) y.executed)) (y.tells (plan_of registrar) plan) in
    let less = less_finish registrar o.seat.me.0 new (left_by word) None o.generation g.E.Ends.list x new.0 (quiet_here new.0.seen) in
    let a = less.fewer in
    let b = registrar.enough in
    let d = registrar.held in
    omega arith

pub invariant_of-self : goal.invariant_of-self
invariant_of-self g c =
    let registrar = c.args.self.now in
    let o = c.args.opening in
    let e = c.join_seat.ensures in
    let me = c.join_seat.new.seat.me in
    let new = c.swap-word.new.seat.me in
    let word = c.swap-word.result in
    let y = c.swap-word.ensures.2 (record { generation = o.generation; slot = o.slot }) (ap (λ m. m.0.fresh) e.2 ∙ o.warming) in
    let x = executed registrar registrar.place.me.0 o.seat.me.0 me new (Finish o.generation g.E.Ends.list) (left_by word) None (goes registrar) (ap (λ m. m.0) e.2) y.executed in
    let plan = ap (λ m. m.0.plan) e.2 ∙ registrar.told in
    let t = subst (λ l. TellsCurrent (limits (plan_of registrar)) l word) (sym (executed_log registrar registrar.place.me.0 o.seat.me.0 me new (Finish o.generation g.E.Ends.list) (left_by word) None (goes registrar) (ap (λ m. m.0) e.2) y.executed)) (y.tells (plan_of registrar) plan) in
    let less = less_finish registrar o.seat.me.0 new (left_by word) None o.generation g.E.Ends.list x new.0 (quiet_here new.0.seen) in
    let id : c.swap-word.new.seat.table_id ≡ registrar.place.table_id = c.swap-word.ensures.0 ∙ e.0 in
    let pushed = c.push_reserved.ensures.items in
    record {
      at_table = id ∙ registrar.at_table;
      sized = ap (λ z. z.words) id ∙ registrar.sized;
      told = x.plan ∙ registrar.told;
      role = x.role ∙ registrar.role;
      counted = less.places;
      most = registrar.most;
      few = registrar.few;
      some = registrar.some;
      few_callers = registrar.few_callers;
      of_callers = registrar.of_callers;
      roomy = registrar.roomy;
      slots = registrar.slots;
      unclosed = registrar.unclosed;
      room = registrar.room;
      last_is = less.last;
      current_is = less.current;
      warming_are = c.remove.ensures ∙ less.warming;
      spares = one_back _ registrar.place.table_id registrar.spare.items c.push_reserved.new.self.items o.link registrar.spares pushed (sym o.at_table ∙ c.requires.table) id;
      held = c.push_reserved.ensures.capacity ∙ registrar.held;
      enough =
          let a = ap length pushed in
          let b = length-append registrar.spare.items (o.link ∷ []) in
          let d = less.fewer in
          let f = ap length c.remove.ensures in
          let k = registrar.enough in
          omega arith;
      within = registrar.within;
      idle = x.task_is ∙ left_low word c.if-word-lt-GENERATION.true;
      empty_handed = x.hand;
      bare = ap (λ m. m.1) y.executed.after ∙ ap (λ m. m.1) e.2 ∙ registrar.bare;
    }

pub returns-then-word-lt-GENERATION : goal.returns-then-word-lt-GENERATION
returns-then-word-lt-GENERATION g c =
    let registrar = c.args.self.now in
    let o = c.args.opening in
    let e = c.join_seat.ensures in
    let me = c.join_seat.new.seat.me in
    let new = c.swap-word.new.seat.me in
    let word = c.swap-word.result in
    let y = c.swap-word.ensures.2 (record { generation = o.generation; slot = o.slot }) (ap (λ m. m.0.fresh) e.2 ∙ o.warming) in
    let x = executed registrar registrar.place.me.0 o.seat.me.0 me new (Finish o.generation g.E.Ends.list) (left_by word) None (goes registrar) (ap (λ m. m.0) e.2) y.executed in
    let plan = ap (λ m. m.0.plan) e.2 ∙ registrar.told in
    let t = subst (λ l. TellsCurrent (limits (plan_of registrar)) l word) (sym (executed_log registrar registrar.place.me.0 o.seat.me.0 me new (Finish o.generation g.E.Ends.list) (left_by word) None (goes registrar) (ap (λ m. m.0) e.2) y.executed)) (y.tells (plan_of registrar) plan) in
    let id : c.swap-word.new.seat.table_id ≡ registrar.place.table_id = c.swap-word.ensures.0 ∙ e.0 in
    record {
      ended = record {
        registrar = record { table = id; plan = refl };
        legal = x.legal;
        back = x.back;
        before = x.log;
        seen = x.quiet;
        covers = x.covers;
        entry = subst (λ z. HasNoPlaceSince new.0.seen z) x.seen (quiet_here new.0.seen);
      };
      place = registrar.counted;
      told = sym (none_is (limits (plan_of registrar)) x.log word t c.if-word-lt-GENERATION.true);
      settled = tt;
    }

pub settle-requires-clause-begun : goal.settle-requires-clause-begun
settle-requires-clause-begun g c =
    let registrar = c.args.self.now in
    let o = c.args.opening in
    let e = c.join_seat.ensures in
    let me = c.join_seat.new.seat.me in
    let new = c.swap-word.new.seat.me in
    let word = c.swap-word.result in
    let y = c.swap-word.ensures.2 (record { generation = o.generation; slot = o.slot }) (ap (λ m. m.0.fresh) e.2 ∙ o.warming) in
    let x = executed registrar registrar.place.me.0 o.seat.me.0 me new (Finish o.generation g.E.Ends.list) (left_by word) None (goes registrar) (ap (λ m. m.0) e.2) y.executed in
    let plan = ap (λ m. m.0.plan) e.2 ∙ registrar.told in
    let t = subst (λ l. TellsCurrent (limits (plan_of registrar)) l word) (sym (executed_log registrar registrar.place.me.0 o.seat.me.0 me new (Finish o.generation g.E.Ends.list) (left_by word) None (goes registrar) (ap (λ m. m.0) e.2) y.executed)) (y.tells (plan_of registrar) plan) in
    record { plan = x.plan ∙ registrar.told; role = x.role ∙ registrar.role; task = x.task_is ∙ left_some (limits (plan_of registrar)) x.log word (let a = c.if-word-lt-GENERATION.false in omega arith) }

pub settle-requires-clause-few : goal.settle-requires-clause-few
settle-requires-clause-few g c =
    let registrar = c.args.self.now in
    let o = c.args.opening in
    let e = c.join_seat.ensures in
    let me = c.join_seat.new.seat.me in
    let new = c.swap-word.new.seat.me in
    let word = c.swap-word.result in
    let y = c.swap-word.ensures.2 (record { generation = o.generation; slot = o.slot }) (ap (λ m. m.0.fresh) e.2 ∙ o.warming) in
    let x = executed registrar registrar.place.me.0 o.seat.me.0 me new (Finish o.generation g.E.Ends.list) (left_by word) None (goes registrar) (ap (λ m. m.0) e.2) y.executed in
    let plan = ap (λ m. m.0.plan) e.2 ∙ registrar.told in
    let t = subst (λ l. TellsCurrent (limits (plan_of registrar)) l word) (sym (executed_log registrar registrar.place.me.0 o.seat.me.0 me new (Finish o.generation g.E.Ends.list) (left_by word) None (goes registrar) (ap (λ m. m.0) e.2) y.executed)) (y.tells (plan_of registrar) plan) in
    few_left (limits (plan_of registrar)) x.log word t (let a = c.if-word-lt-GENERATION.false in omega arith)

pub invariant_of-self-2 : goal.invariant_of-self-2
invariant_of-self-2 g c =
    let registrar = c.args.self.now in
    let o = c.args.opening in
    let e = c.join_seat.ensures in
    let me = c.join_seat.new.seat.me in
    let new = c.swap-word.new.seat.me in
    let word = c.swap-word.result in
    let y = c.swap-word.ensures.2 (record { generation = o.generation; slot = o.slot }) (ap (λ m. m.0.fresh) e.2 ∙ o.warming) in
    let x = executed registrar registrar.place.me.0 o.seat.me.0 me new (Finish o.generation g.E.Ends.list) (left_by word) None (goes registrar) (ap (λ m. m.0) e.2) y.executed in
    let plan = ap (λ m. m.0.plan) e.2 ∙ registrar.told in
    let t = subst (λ l. TellsCurrent (limits (plan_of registrar)) l word) (sym (executed_log registrar registrar.place.me.0 o.seat.me.0 me new (Finish o.generation g.E.Ends.list) (left_by word) None (goes registrar) (ap (λ m. m.0) e.2) y.executed)) (y.tells (plan_of registrar) plan) in
    let n = c.settle.new.place in
    let h = c.settle.ensures.settled in
    let less = less_finish registrar o.seat.me.0 new (left_by word) None o.generation g.E.Ends.list x n.me.0 h.since in
    let id : n.table_id ≡ registrar.place.table_id = c.settle.ensures.table ∙ c.swap-word.ensures.0 ∙ e.0 in
    let pushed = c.push_reserved.ensures.items in
    record {
      at_table = id ∙ registrar.at_table;
      sized = ap (λ z. z.words) id ∙ registrar.sized;
      told = h.opener.plan;
      role = h.opener.role;
      counted = less.places;
      most = registrar.most;
      few = registrar.few;
      some = registrar.some;
      few_callers = registrar.few_callers;
      of_callers = registrar.of_callers;
      roomy = registrar.roomy;
      slots = registrar.slots;
      unclosed = registrar.unclosed;
      room = registrar.room;
      last_is = less.last;
      current_is = less.current;
      warming_are = c.remove.ensures ∙ less.warming;
      spares = one_back _ registrar.place.table_id registrar.spare.items c.push_reserved.new.self.items o.link registrar.spares pushed (sym o.at_table ∙ c.requires.table) id;
      held = c.push_reserved.ensures.capacity ∙ registrar.held;
      enough =
          let a = ap length pushed in
          let b = length-append registrar.spare.items (o.link ∷ []) in
          let d = less.fewer in
          let f = ap length c.remove.ensures in
          let k = registrar.enough in
          omega arith;
      within = registrar.within;
      idle = h.opener.task;
      empty_handed = h.hand;
      bare = c.settle.ensures.id ∙ ap (λ m. m.1) y.executed.after ∙ ap (λ m. m.1) e.2 ∙ registrar.bare;
    }

pub returns : goal.returns
returns g c =
    let registrar = c.args.self.now in
    let o = c.args.opening in
    let e = c.join_seat.ensures in
    let me = c.join_seat.new.seat.me in
    let new = c.swap-word.new.seat.me in
    let word = c.swap-word.result in
    let y = c.swap-word.ensures.2 (record { generation = o.generation; slot = o.slot }) (ap (λ m. m.0.fresh) e.2 ∙ o.warming) in
    let x = executed registrar registrar.place.me.0 o.seat.me.0 me new (Finish o.generation g.E.Ends.list) (left_by word) None (goes registrar) (ap (λ m. m.0) e.2) y.executed in
    let plan = ap (λ m. m.0.plan) e.2 ∙ registrar.told in
    let t = subst (λ l. TellsCurrent (limits (plan_of registrar)) l word) (sym (executed_log registrar registrar.place.me.0 o.seat.me.0 me new (Finish o.generation g.E.Ends.list) (left_by word) None (goes registrar) (ap (λ m. m.0) e.2) y.executed)) (y.tells (plan_of registrar) plan) in
    let n = c.settle.new.place in
    let h = c.settle.ensures.settled in
    let id : n.table_id ≡ registrar.place.table_id = c.settle.ensures.table ∙ c.swap-word.ensures.0 ∙ e.0 in
    record {
      ended = record {
        registrar = record { table = id; plan = refl };
        legal = h.legal;
        back = h.back ∙ x.back;
        before = x.log;
        seen = x.quiet;
        covers = x.covers;
        entry = subst (λ z. HasNoPlaceSince n.me.0.seen z) x.seen h.since;
      };
      place = registrar.counted;
      told = sym (some_is (limits (plan_of registrar)) x.log word t (let a = c.if-word-lt-GENERATION.false in omega arith));
      settled = (h.log, subst (λ z. HasNoPlaceSince h.log z) x.seen h.seen, h.settled);
    }
