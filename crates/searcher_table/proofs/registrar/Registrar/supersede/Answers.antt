use Rattle.std.proofs.Common.{◌≡◌, ◌∙◌, [], ◌∷◌, length, length-append, Some, None, refl, sym, ap, subst, arith}
use Rattle.registry_machine.specs.declared.entry.Entry.TheVariants.{Superseded}
use Rattle.registry_machine.specs.Legal.{state_of}
use Rattle.searcher_table.specs.declared.board.Task.TheVariants.{Unsettled}
use Rattle.searcher_table.specs.Words.{limits}
use Rattle.searcher_table.specs.Views.{HasNoPlaceSince}
use Rattle.searcher_table.specs.Registrars.{plan_of, seen_of}
use Rattle.searcher_table.proofs.Gather.{joins}
use Rattle.searcher_table.proofs.Ending.{supersedes}
use Rattle.searcher_table.proofs.Registering.{goes, executed}
use Rattle.searcher_table.proofs.Settled.{some_number, less_superseded, one_back}
use Rattle.searcher_table.proofs.registrar.Registrar.supersede.Goals as goal

pub join_seat-requires : goal.join_seat-requires
join_seat-requires g c =
    let registrar = c.args.self.now in
    let o = c.args.opening in
    let table = c.deref.result.now.shared in
    let same : registrar.place.table_id ≡ table.table_id = registrar.at_table ∙ sym (ap (λ t. t.shared.table_id) c.deref.ensures) in
    let words : table.table_id.words ≡ 1168 = ap (λ z. z.words) (sym same) ∙ registrar.sized in (
      same,
      c.requires.table ∙ same,
      o.bare,
      omega arith,
      joins g.D.Shown.setting g.D.Shown.docs g.D.Shown.list table.key registrar.place.id registrar.place.me.0 o.seat.id o.seat.me.0,
    )

pub store-requires : goal.store-requires
store-requires g c =
    let registrar = c.args.self.now in
    let o = c.args.opening in
    let table = c.deref.result.now.shared in
    let same : registrar.place.table_id ≡ table.table_id = registrar.at_table ∙ sym (ap (λ t. t.shared.table_id) c.deref.ensures) in
    let words : table.table_id.words ≡ 1168 = ap (λ z. z.words) (sym same) ∙ registrar.sized in
    let e = c.join_seat.ensures in
    let me = c.join_seat.new.seat.me in
    let later = c.requires.later in
    let current = some_number (state_of (limits (plan_of registrar)) (seen_of registrar)).current registrar.current registrar.current_is (omega arith) in (
      e.0 ∙ same,
      omega arith,
      supersedes g.D.Shown.setting g.D.Shown.docs g.D.Shown.list table.key g.E.Ends.list table.table_id.slots c.join_seat.new.seat.id me 16 registrar.current (record { generation = o.generation; slot = o.slot }) refl (ap (λ m. m.0.registrar) e.2 ∙ registrar.role) (ap (λ m. m.0.task) e.2 ∙ registrar.idle)
          (ap (λ m. m.0.fresh) e.2 ∙ o.warming) (ap (λ m. m.0.plan) e.2 ∙ registrar.told ∙ ap (λ t. Some t.shared.key) (sym c.deref.ensures))
          ((λ i. (state_of (limits (ap (λ t. t.shared.key) c.deref.ensures i)) (ap (λ m. m.0.seen) e.2 i)).current) ∙ current) later,
    )

pub settle-requires-clause-begun : goal.settle-requires-clause-begun
settle-requires-clause-begun g c =
    let registrar = c.args.self.now in
    let o = c.args.opening in
    let e = c.join_seat.ensures in
    let me = c.join_seat.new.seat.me in
    let new = c.store.new.seat.me in
    let later = c.requires.later in
    let by = registrar.current in
    let current = some_number (state_of (limits (plan_of registrar)) (seen_of registrar)).current by registrar.current_is (omega arith) in
    let y = c.store.ensures.2 (record { generation = o.generation; slot = o.slot }) (plan_of registrar) by (ap (λ m. m.0.fresh) e.2 ∙ o.warming) (ap (λ m. m.0.plan) e.2 ∙ registrar.told) (ap (λ m. (state_of (limits (plan_of registrar)) m.0.seen).current) e.2 ∙ current) in
    let x = executed registrar registrar.place.me.0 o.seat.me.0 me new (Superseded o.generation by g.E.Ends.list) (Unsettled o.slot o.generation 0) None (goes registrar) (ap (λ m. m.0) e.2) y in
    record { plan = x.plan ∙ registrar.told; role = x.role ∙ registrar.role; task = x.task_is }

pub push_reserved-requires : goal.push_reserved-requires
push_reserved-requires g c =
    let registrar = c.args.self.now in
    let o = c.args.opening in
    let e = c.join_seat.ensures in
    let me = c.join_seat.new.seat.me in
    let new = c.store.new.seat.me in
    let later = c.requires.later in
    let by = registrar.current in
    let current = some_number (state_of (limits (plan_of registrar)) (seen_of registrar)).current by registrar.current_is (omega arith) in
    let y = c.store.ensures.2 (record { generation = o.generation; slot = o.slot }) (plan_of registrar) by (ap (λ m. m.0.fresh) e.2 ∙ o.warming) (ap (λ m. m.0.plan) e.2 ∙ registrar.told) (ap (λ m. (state_of (limits (plan_of registrar)) m.0.seen).current) e.2 ∙ current) in
    let x = executed registrar registrar.place.me.0 o.seat.me.0 me new (Superseded o.generation by g.E.Ends.list) (Unsettled o.slot o.generation 0) None (goes registrar) (ap (λ m. m.0) e.2) y in
    let less = less_superseded registrar o.seat.me.0 new (Unsettled o.slot o.generation 0) None o.generation g.E.Ends.list by x c.settle.new.place.me.0 c.settle.ensures.settled.since in
    let a = less.fewer in
    let b = registrar.enough in
    let d = registrar.held in
    omega arith

pub invariant_of-self : goal.invariant_of-self
invariant_of-self g c =
    let registrar = c.args.self.now in
    let o = c.args.opening in
    let e = c.join_seat.ensures in
    let me = c.join_seat.new.seat.me in
    let new = c.store.new.seat.me in
    let later = c.requires.later in
    let by = registrar.current in
    let current = some_number (state_of (limits (plan_of registrar)) (seen_of registrar)).current by registrar.current_is (omega arith) in
    let y = c.store.ensures.2 (record { generation = o.generation; slot = o.slot }) (plan_of registrar) by (ap (λ m. m.0.fresh) e.2 ∙ o.warming) (ap (λ m. m.0.plan) e.2 ∙ registrar.told) (ap (λ m. (state_of (limits (plan_of registrar)) m.0.seen).current) e.2 ∙ current) in
    let x = executed registrar registrar.place.me.0 o.seat.me.0 me new (Superseded o.generation by g.E.Ends.list) (Unsettled o.slot o.generation 0) None (goes registrar) (ap (λ m. m.0) e.2) y in
    let n = c.settle.new.place in
    let h = c.settle.ensures.settled in
    let less = less_superseded registrar o.seat.me.0 new (Unsettled o.slot o.generation 0) None o.generation g.E.Ends.list by x n.me.0 h.since in
    let id : n.table_id ≡ registrar.place.table_id = c.settle.ensures.table ∙ c.store.ensures.0 ∙ e.0 in
    let pushed = c.push_reserved.ensures.items in
    record {
      at_table = id ∙ registrar.at_table;
      sized = ap (λ z. z.words) id ∙ registrar.sized;
      told = h.opener.plan;
      role = h.opener.role;
      counted = less.places;
      most = registrar.most;
      few = registrar.few;
      some = registrar.some;
      few_callers = registrar.few_callers;
      of_callers = registrar.of_callers;
      roomy = registrar.roomy;
      slots = registrar.slots;
      unclosed = registrar.unclosed;
      room = registrar.room;
      last_is = less.last;
      current_is = less.current;
      warming_are = c.remove.ensures ∙ less.warming;
      spares = one_back _ registrar.place.table_id registrar.spare.items c.push_reserved.new.self.items o.link registrar.spares pushed (sym o.at_table ∙ c.requires.table) id;
      held = c.push_reserved.ensures.capacity ∙ registrar.held;
      enough =
          let a = ap length pushed in
          let b = length-append registrar.spare.items (o.link ∷ []) in
          let d = less.fewer in
          let f = ap length c.remove.ensures in
          let k = registrar.enough in
          omega arith;
      within = registrar.within;
      idle = h.opener.task;
      empty_handed = h.hand;
      bare = c.settle.ensures.id ∙ ap (λ m. m.1) y.after ∙ ap (λ m. m.1) e.2 ∙ registrar.bare;
    }

pub returns : goal.returns
returns g c =
    let registrar = c.args.self.now in
    let o = c.args.opening in
    let e = c.join_seat.ensures in
    let me = c.join_seat.new.seat.me in
    let new = c.store.new.seat.me in
    let later = c.requires.later in
    let by = registrar.current in
    let current = some_number (state_of (limits (plan_of registrar)) (seen_of registrar)).current by registrar.current_is (omega arith) in
    let y = c.store.ensures.2 (record { generation = o.generation; slot = o.slot }) (plan_of registrar) by (ap (λ m. m.0.fresh) e.2 ∙ o.warming) (ap (λ m. m.0.plan) e.2 ∙ registrar.told) (ap (λ m. (state_of (limits (plan_of registrar)) m.0.seen).current) e.2 ∙ current) in
    let x = executed registrar registrar.place.me.0 o.seat.me.0 me new (Superseded o.generation by g.E.Ends.list) (Unsettled o.slot o.generation 0) None (goes registrar) (ap (λ m. m.0) e.2) y in
    let n = c.settle.new.place in
    let h = c.settle.ensures.settled in
    let id : n.table_id ≡ registrar.place.table_id = c.settle.ensures.table ∙ c.store.ensures.0 ∙ e.0 in
    record {
      ended = record {
        registrar = record { table = id; plan = refl };
        legal = h.legal;
        back = h.back ∙ x.back;
        before = x.log;
        seen = x.quiet;
        covers = x.covers;
        entry = subst (λ z. HasNoPlaceSince n.me.0.seen z) x.seen h.since;
      };
      place = registrar.counted;
      current = registrar.current_is;
      log = h.log;
      since = subst (λ z. HasNoPlaceSince h.log z) x.seen h.seen;
      settled = h.settled;
    }
