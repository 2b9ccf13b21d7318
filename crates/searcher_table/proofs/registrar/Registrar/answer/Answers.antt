use Rattle.std.proofs.Common.{◌≡◌, ◌+◌, ◌*◌, ◌∙◌, List, Some, refl, sym, ap, subst, arith}
use Rattle.registry_machine.specs.declared.entry.Entry.{Entry}
use Rattle.registry_machine.specs.Legal.{IsAllowed, state_of}
use Rattle.searcher_table.specs.declared.board.Plan.{Plan}
use Rattle.searcher_table.specs.declared.board.Hand.{Hand}
use Rattle.searcher_table.proofs.Registering.{answered, entered_mirrors}
use Rattle.registry_machine.specs.Machine.{after}
use Rattle.searcher_table.specs.declared.board.Task.TheVariants.{Idle}
use Rattle.searcher_table.proofs.Quiet.{same_openings}
use Rattle.searcher_table.specs.Words.{limits}
use Rattle.searcher_table.specs.Steps.{answer_of}
use Rattle.searcher_table.specs.Registrars.{plan_of, seen_of, answer_to}
use Rattle.searcher_table.specs.Spares.{AreAt}
use Rattle.searcher_table.proofs.Gather.{joins}
use Rattle.searcher_table.proofs.Execute.{answers, is_answer}
use Rattle.searcher_table.proofs.registrar.Registrar.answer.Goals as goal

pub join_seat-requires : goal.join_seat-requires
join_seat-requires g c =
    let registrar = c.args.self.now in
    let call = c.args.call in
    let table = c.deref.result.now.shared in
    let same : registrar.place.table_id ≡ table.table_id = registrar.at_table ∙ sym (ap (λ t. t.shared.table_id) c.deref.ensures) in
    let words : table.table_id.words ≡ 1168 = ap (λ z. z.words) (sym same) ∙ registrar.sized in (
      same,
      c.requires.table ∙ same,
      call.bare,
      omega arith,
      joins g.D.Shown.setting g.D.Shown.docs g.D.Shown.list table.key registrar.place.id registrar.place.me.0 call.place.id call.place.me.0,
    )

pub store-requires : goal.store-requires
store-requires g c =
    let registrar = c.args.self.now in
    let call = c.args.call in
    let table = c.deref.result.now.shared in
    let same : registrar.place.table_id ≡ table.table_id = registrar.at_table ∙ sym (ap (λ t. t.shared.table_id) c.deref.ensures) in
    let words : table.table_id.words ≡ 1168 = ap (λ z. z.words) (sym same) ∙ registrar.sized in
    let hand : Hand g.row.U.Denot = record { caller = call.caller; asked = call.asked } in
    let e = c.join_seat.ensures in
    let me = c.join_seat.new.seat.me in
    let kp : plan_of registrar ≡ table.key = sym (ap (λ t. t.shared.key) c.deref.ensures) in
    let sp : seen_of registrar ≡ me.0.seen = sym (ap (λ m. m.0.seen) e.2) in
    let few = call.ranged in (
      e.0 ∙ same,
      omega arith,
      answers g.D.Shown.setting g.D.Shown.docs g.D.Shown.list table.key table.table_id.slots c.join_seat.new.seat.id me (640 + 8 * call.caller) hand
          refl call.ranged.0 call.ranged.1 (ap (λ m. m.0.hand) e.2 ∙ call.in_hand) (ap (λ m. m.0.registrar) e.2 ∙ registrar.role) (ap (λ m. m.0.plan) e.2 ∙ registrar.told ∙ ap (λ p. Some p) kp)
          (subst (λ (z : Plan g.row.D-Setting.Denot × List (Entry g.row.U.Denot g.row.D-Docs.Denot g.row.D-Deed.Denot)). IsAllowed (limits z.0) (state_of (limits z.0) z.1) (answer_of call.asked.call z.0 z.1 hand)) (λ i. (kp i, sp i)) c.requires.may),
    )

pub invariant_of-self : goal.invariant_of-self
invariant_of-self g c =
    let registrar = c.args.self.now in
    let call = c.args.call in
    let hand : Hand g.row.U.Denot = record { caller = call.caller; asked = call.asked } in
    let e = c.join_seat.ensures in
    let x = answered registrar call c.join_seat.new.seat.me c.store.new.seat.me e.2 c.store.ensures.2 in
    let a = is_answer (plan_of registrar) (seen_of registrar) hand call.asked.call refl in
    let m = entered_mirrors registrar call.place.me.0 c.store.new.seat.me (answer_to registrar call) Idle c.join_seat.new.seat.me.0.fresh x (same_openings (state_of (limits (plan_of registrar)) x.log) (after (state_of (limits (plan_of registrar)) x.log) (answer_to registrar call)) (a.same (state_of (limits (plan_of registrar)) x.log))) in
    let id : c.store.new.seat.table_id ≡ registrar.place.table_id = c.store.ensures.0 ∙ e.0 in
    record {
      at_table = id ∙ registrar.at_table;
      sized = ap (λ z. z.words) id ∙ registrar.sized;
      told = x.plan ∙ registrar.told;
      role = x.role ∙ registrar.role;
      counted = x.places a.placed;
      most = registrar.most;
      few = registrar.few;
      some = registrar.some;
      few_callers = registrar.few_callers;
      of_callers = registrar.of_callers;
      roomy = registrar.roomy;
      slots = registrar.slots;
      unclosed = registrar.unclosed;
      room = registrar.room;
      last_is = m.last;
      warming_are = m.warming;
      current_is = m.current;
      held = registrar.held;
      spares = subst (λ z. AreAt z registrar.spare.items) (sym id) registrar.spares;
      enough = registrar.enough;
      within = registrar.within;
      idle = x.task_is;
      empty_handed = x.hand;
      bare = ap (λ m. m.1) (c.store.ensures.2 hand (plan_of registrar) (ap (λ m. m.0.hand) e.2 ∙ call.in_hand) (ap (λ m. m.0.plan) e.2 ∙ registrar.told)).after ∙ ap (λ m. m.1) e.2 ∙ registrar.bare;
    }

pub returns-clause-entry : goal.returns-clause-entry
returns-clause-entry g c =
    let registrar = c.args.self.now in
    let call = c.args.call in
    let e = c.join_seat.ensures in
    let x = answered registrar call c.join_seat.new.seat.me c.store.new.seat.me e.2 c.store.ensures.2 in
    record {
      registrar = record { table = c.store.ensures.0 ∙ e.0; plan = refl };
      legal = x.legal;
      back = x.back;
      before = x.log;
      seen = x.quiet;
      covers = x.covers;
      entry = x.seen;
    }
