use Rattle.std.proofs.Common.{◌≡◌, ◌+◌, ◌*◌, ◌<◌, ◌∙◌, [], ◌∷◌, ◌++◌, length, length-append, List, count_by, Some, None, refl, sym, ap, subst, arith}
use Rattle.registry_machine.specs.declared.entry.Entry.{Entry}
use Rattle.registry_machine.specs.declared.entry.Entry.TheVariants.{Open}
use Rattle.registry_machine.specs.Entries.{has_place}
use Rattle.registry_machine.specs.Legal.{Legal, state_of}
use Rattle.searcher_table.specs.declared.board.Plan.{Plan}
use Rattle.searcher_table.specs.declared.board.Hand.{Hand}
use Rattle.searcher_table.specs.Words.{last_generation, limits}
use Rattle.searcher_table.specs.Warming.{listed, last_in, current_in, warming_in}
use Rattle.searcher_table.specs.Registrars.{plan_of, seen_of}
use Rattle.std.specs.Prelude.{slice_get}
use Rattle.searcher_table.specs.Spares.{AreAt}
use Rattle.searcher_table.proofs.Row.{got_here, got_before}
use Rattle.searcher_table.proofs.Gather.{joins}
use Rattle.searcher_table.proofs.HandOut.{splits}
use Rattle.searcher_table.proofs.Open.{opens_next}
use Rattle.searcher_table.proofs.Registering.{opened, opened_mirrors}
use Rattle.searcher_table.proofs.Quiet.{quiet_since}
use Rattle.searcher_table.specs.declared.board.Task.TheVariants.{Idle, Filled}
use Rattle.searcher_table.proofs.Preparing.{goes_on}
use Rattle.searcher_table.proofs.Filling.{filled_on}
use Rattle.searcher_table.proofs.registrar.Registrar.open.Goals as goal

pub claim-slot-requires-clause-opener : goal.claim-slot-requires-clause-opener
claim-slot-requires-clause-opener g c =
    let registrar = c.args.self.now in
    record { plan = registrar.told; role = registrar.role; task = registrar.idle }

pub claim-slot-requires-clause-room : goal.claim-slot-requires-clause-room
claim-slot-requires-clause-room g c = c.requires.may.room

pub fill-requires-clause-opener : goal.fill-requires-clause-opener
fill-requires-clause-opener g c = c.claim-slot.ensures.begun.opener

pub fill-requires-clause-below : goal.fill-requires-clause-below
fill-requires-clause-below g c =
    let registrar = c.args.self.now in
    let b = c.claim-slot.ensures.free.below in
    let n = registrar.few_callers in
    let m = registrar.most in
    let k = registrar.few in
    omega arith

pub fill-requires-clause-doors : goal.fill-requires-clause-doors
fill-requires-clause-doors g c =
    let d = c.requires.doors in
    record { count = d.count; settings = d.settings; same = d.same; unused = d.unused }

pub join_seat-requires : goal.join_seat-requires
join_seat-requires g c =
    let registrar = c.args.self.now in
    let call = c.args.call in
    let table = c.deref.result.now.shared in
    let f = c.claim-slot.ensures in
    let same : registrar.place.table_id ≡ table.table_id = registrar.at_table ∙ sym (ap (λ t. t.shared.table_id) c.deref.ensures) in
    let words : table.table_id.words ≡ 1168 = ap (λ z. z.words) (sym same) ∙ registrar.sized in (
      c.fill.ensures.table ∙ f.table ∙ same,
      c.requires.call.table ∙ same,
      call.bare,
      omega arith,
      joins g.D.Shown.setting g.D.Shown.docs g.D.Shown.list table.key c.fill.new.place.id c.fill.new.place.me.0 call.place.id call.place.me.0,
    )

pub compare_exchange-requires : goal.compare_exchange-requires
compare_exchange-requires g c =
    let registrar = c.args.self.now in
    let call = c.args.call in
    let table = c.deref.result.now.shared in
    let f = c.claim-slot.ensures in
    let slot = c.claim-slot.result in
    let fill = c.fill.ensures in
    let k = c.fill.new.place.me.0 in
    let b = filled_on registrar c.claim-slot.new.place.me.0 k slot fill.filled.shown f.begun fill.filled.laid in
    let same : registrar.place.table_id ≡ table.table_id = registrar.at_table ∙ sym (ap (λ t. t.shared.table_id) c.deref.ensures) in
    let words : table.table_id.words ≡ 1168 = ap (λ z. z.words) (sym same) ∙ registrar.sized in
    let hand : Hand g.row.U.Denot = record { caller = call.caller; asked = call.asked } in
    let e = c.join_seat.ensures in
    let me = c.join_seat.new.seat.me in
    let kp : plan_of registrar ≡ table.key = sym (ap (λ t. t.shared.key) c.deref.ensures) in
    let sp : k.seen ≡ me.0.seen = sym (ap (λ m. m.0.seen) e.2) in
    let quiet = quiet_since (limits (plan_of registrar)) k.seen (seen_of registrar) b.begun.seen in
    let may = c.requires.may in
    let few = call.ranged in (
      e.0 ∙ fill.table ∙ f.table ∙ same,
      omega arith,
      opens_next g.D.Shown.setting g.D.Shown.docs g.D.Shown.list table.key table.table_id.slots c.join_seat.new.seat.id me (640 + 8 * call.caller) hand slot (plan_of registrar).callers fill.filled.shown
          refl call.ranged.0 call.ranged.1 (ap (λ m. m.0.hand) e.2 ∙ call.in_hand) (ap (λ m. m.0.registrar) e.2 ∙ b.begun.opener.role) (ap (λ m. m.0.plan) e.2 ∙ b.begun.opener.plan ∙ ap (λ p. Some p) kp) c.requires.call.call
          (ap (λ m. m.0.task) e.2 ∙ b.begun.opener.task) (ap (λ p. p.callers) kp) (ap (λ m. m.0.filling) e.2 ∙ b.filling)
          (subst (λ (z : Plan g.row.D-Setting.Denot). slot < (limits z).slots) kp f.free.below)
          (subst (λ (z : Plan g.row.D-Setting.Denot × List (Entry g.row.U.Denot g.row.D-Docs.Denot g.row.D-Deed.Denot)). (state_of (limits z.0) z.1).slots slot ≡ None) (λ i. (kp i, sp i)) ((quiet_since (limits (plan_of registrar)) k.seen c.claim-slot.new.place.me.0.seen fill.filled.laid.begun.seen).free slot f.free.none))
          (subst (λ (z : Plan g.row.D-Setting.Denot × List (Entry g.row.U.Denot g.row.D-Docs.Denot g.row.D-Deed.Denot)). length (warming_in z.0 z.1) < z.0.max_warming) (λ i. (kp i, sp i))
          (subst (λ gs. length gs < (plan_of registrar).max_warming) (sym quiet.warming) may.room))
          (subst (λ (z : Plan g.row.D-Setting.Denot × List (Entry g.row.U.Denot g.row.D-Docs.Denot g.row.D-Deed.Denot)). last_in z.0 z.1 < last_generation) (λ i. (kp i, sp i))
          (subst (λ n. n < last_generation) (sym quiet.last) may.left)),
    )

pub split_seat-seat-requires : goal.split_seat-seat-requires
split_seat-seat-requires g c =
    let registrar = c.args.self.now in
    let table = c.deref.result.now.shared in
    let same : registrar.place.table_id ≡ table.table_id = registrar.at_table ∙ sym (ap (λ t. t.shared.table_id) c.deref.ensures) in
    let words : table.table_id.words ≡ 1168 = ap (λ z. z.words) (sym same) ∙ registrar.sized in (
      c.compare_exchange.ensures.0 ∙ c.join_seat.ensures.0 ∙ c.fill.ensures.table ∙ c.claim-slot.ensures.table ∙ same,
      omega arith,
      splits g.D.Shown.setting g.D.Shown.docs g.D.Shown.list table.key c.compare_exchange.new.seat.id c.compare_exchange.new.seat.me.0,
    )

pub invariant_of-self : goal.invariant_of-self
invariant_of-self g c =
    let registrar = c.args.self.now in
    let call = c.args.call in
    let f = c.claim-slot.ensures in
    let slot = c.claim-slot.result in
    let e = c.join_seat.ensures in
    let new = c.compare_exchange.new.seat.me in
    let fill = c.fill.ensures in
    let k = c.fill.new.place.me.0 in
    let shown = fill.filled.shown in
    let callers = (plan_of registrar).callers in
    let b = filled_on registrar c.claim-slot.new.place.me.0 k slot shown f.begun fill.filled.laid in
    let x = opened shown registrar call k slot callers c.join_seat.new.seat.me new (goes_on registrar k (Filled slot callers) b.begun) (ap (λ m. m.0) e.2) b.begun.opener.task b.filling c.compare_exchange.ensures.2 in
    let e2 = c.split_seat-seat.ensures in
    let id : c.split_seat-seat.new.seat.table_id ≡ registrar.place.table_id = e2.0 ∙ c.compare_exchange.ensures.0 ∙ e.0 ∙ fill.table ∙ f.table in
    let m = opened_mirrors registrar call.place.me.0 new (record { caller = call.caller; asked = call.asked }) slot shown Idle (Some (record { generation = last_in (plan_of registrar) (seen_of registrar) + 1; slot = slot })) x in
    record {
      at_table = id ∙ registrar.at_table;
      sized = ap (λ z. z.words) id ∙ registrar.sized;
      told = ap (λ m. m.0.plan) e2.2 ∙ x.plan ∙ registrar.told;
      role = ap (λ m. m.0.registrar) e2.2 ∙ x.role ∙ registrar.role;
      counted = x.places refl ∙ ap (λ m. count_by has_place m.0.seen) (sym e2.2);
      most = registrar.most;
      few = registrar.few;
      some = registrar.some;
      few_callers = registrar.few_callers;
      of_callers = registrar.of_callers;
      roomy = registrar.roomy;
      slots = registrar.slots;
      unclosed = registrar.unclosed;
      room = registrar.room;
      last_is = m.last ∙ ap (λ z. last_in (plan_of registrar) z.0.seen) (sym e2.2);
      warming_are = c.add.ensures ∙ m.warming ∙ ap (λ z. warming_in (plan_of registrar) z.0.seen) (sym e2.2);
      current_is = m.current ∙ ap (λ z. current_in (plan_of registrar) z.0.seen) (sym e2.2);
      held = c.in-Some.ensures.capacity ∙ registrar.held;
      spares = subst (λ z. AreAt z c.pop.new.self.items) (sym id) (λ i l at. registrar.spares i l (ap (λ ls. slice_get ls i) c.in-Some.ensures.items ∙ got_before c.pop.new.self.items (c.in-Some.link ∷ []) i l at));
      enough =
          let a = ap length c.add.ensures in
          let b = length-append (listed registrar.warming) ((registrar.last + 1) ∷ []) in
          let n = ap length c.in-Some.ensures.items in
          let m = length-append c.pop.new.self.items (c.in-Some.link ∷ []) in
          let k = registrar.enough in
          omega arith;
      within = (let l = c.requires.may.left in let i = registrar.last_is in omega arith);
      idle = ap (λ m. m.0.task) e2.2 ∙ x.task_is;
      empty_handed = ap (λ m. m.0.hand) e2.2;
      bare = ap (λ m. m.1) e2.2 ∙ ap (λ m. m.1) (c.compare_exchange.ensures.2 (record { caller = call.caller; asked = call.asked }) (plan_of registrar) slot callers shown (ap (λ m. m.0.hand) e.2 ∙ call.in_hand) (ap (λ m. m.0.plan) e.2 ∙ b.begun.opener.plan) (ap (λ m. m.0.task) e.2 ∙ b.begun.opener.task) (ap (λ m. m.0.filling) e.2 ∙ b.filling)).after ∙ ap (λ m. m.1) e.2 ∙ fill.bare;
    }

pub invariant_of-result : goal.invariant_of-result
invariant_of-result g c =
    let registrar = c.args.self.now in
    let call = c.args.call in
    let f = c.claim-slot.ensures in
    let slot = c.claim-slot.result in
    let e = c.join_seat.ensures in
    let new = c.compare_exchange.new.seat.me in
    let fill = c.fill.ensures in
    let k = c.fill.new.place.me.0 in
    let shown = fill.filled.shown in
    let callers = (plan_of registrar).callers in
    let b = filled_on registrar c.claim-slot.new.place.me.0 k slot shown f.begun fill.filled.laid in
    let x = opened shown registrar call k slot callers c.join_seat.new.seat.me new (goes_on registrar k (Filled slot callers) b.begun) (ap (λ m. m.0) e.2) b.begun.opener.task b.filling c.compare_exchange.ensures.2 in
    let e2 = c.split_seat-seat.ensures in
    let at : c.split_seat-seat.result.table_id ≡ registrar.place.table_id = e2.3 ∙ c.compare_exchange.ensures.0 ∙ e.0 ∙ fill.table ∙ f.table in
    record {
      at_table = at ∙ sym (registrar.spares (length c.pop.new.self.items) c.in-Some.link (ap (λ ls. slice_get ls (length c.pop.new.self.items)) c.in-Some.ensures.items ∙ got_here c.pop.new.self.items c.in-Some.link));
      sized = ap (λ z. z.words) at ∙ registrar.sized;
      warming = ap (λ m. m.0.fresh) e2.4 ∙ x.fresh_is ∙ ap (λ n. Some (record { generation = n + 1; slot = slot })) (sym registrar.last_is);
      within = (let l = c.requires.may.left in let i = registrar.last_is in omega arith);
      below = (let b = f.free.below in let n = registrar.few_callers in let m = registrar.most in let k = registrar.few in omega arith);
      empty_handed = ap (λ m. m.0.hand) e2.4 ∙ x.hand;
      bare = ap (λ m. m.1) e2.4;
    }

pub returns : goal.returns
returns g c =
    let registrar = c.args.self.now in
    let call = c.args.call in
    let f = c.claim-slot.ensures in
    let slot = c.claim-slot.result in
    let e = c.join_seat.ensures in
    let new = c.compare_exchange.new.seat.me in
    let fill = c.fill.ensures in
    let k = c.fill.new.place.me.0 in
    let shown = fill.filled.shown in
    let callers = (plan_of registrar).callers in
    let b = filled_on registrar c.claim-slot.new.place.me.0 k slot shown f.begun fill.filled.laid in
    let x = opened shown registrar call k slot callers c.join_seat.new.seat.me new (goes_on registrar k (Filled slot callers) b.begun) (ap (λ m. m.0) e.2) b.begun.opener.task b.filling c.compare_exchange.ensures.2 in
    let e2 = c.split_seat-seat.ensures in
    let id : c.split_seat-seat.new.seat.table_id ≡ registrar.place.table_id = e2.0 ∙ c.compare_exchange.ensures.0 ∙ e.0 ∙ fill.table ∙ f.table in
    record {
      slot = slot;
      shown = shown;
      entry = record {
        registrar = record { table = id; plan = refl };
        legal = subst (λ z. Legal (limits (plan_of registrar)) z.0.seen) (sym e2.2) x.legal;
        back = ap (λ m. m.0.back) e2.2 ∙ x.back;
        before = x.log;
        seen = x.quiet;
        covers = x.covers;
        entry = ap (λ m. m.0.seen) e2.2 ∙ x.seen
            ∙ (λ i. x.log ++ Open call.caller call.asked.content (sym registrar.last_is i + 1) slot shown ∷ []);
      };
      doors_show = fill.filled.doors_show;
      generation = ap (λ n. n + 1) registrar.last_is;
      place = registrar.counted;
      may = c.requires.may;
      seen = ap (λ m. m.0.seen) e2.4 ∙ sym (ap (λ m. m.0.seen) e2.2);
      table = e2.3 ∙ sym e2.0;
    }
