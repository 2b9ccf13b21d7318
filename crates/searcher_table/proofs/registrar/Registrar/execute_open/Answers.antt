use Rattle.std.proofs.Common.{◌∙◌, length, ap, sym, subst, refl, arith}
use Rattle.registry_machine.specs.declared.entry.Entry.TheVariants.{TooMany}
use Rattle.registry_machine.specs.Legal.{IsAllowed, state_of}
use Rattle.searcher_table.specs.Words.{limits}
use Rattle.searcher_table.specs.Registrars.{plan_of, seen_of, HasEntry}
use Rattle.searcher_table.proofs.Registering.{refuses_full, refuses_spent, is_full, has_room, none_left}
use Rattle.searcher_table.proofs.registrar.Registrar.execute_open.Goals as goal

pub answer-place-requires-clause-may : goal.answer-place-requires-clause-may
answer-place-requires-clause-may g c =
    let r = c.args.self.now in
    let full = is_full r c.get.result.now c.get.ensures c.if-get-self.true in
    subst (IsAllowed (limits (plan_of r)) (state_of (limits (plan_of r)) (seen_of r))) (sym (refuses_full r c.args.call c.requires.call.call full)) record { full = full; told = refl }

pub returns-then-get-self-clause-refused : goal.returns-then-get-self-clause-refused
returns-then-get-self-clause-refused g c =
    let r = c.args.self.now in
    let call = c.args.call in
    let full = is_full r c.get.result.now c.get.ensures c.if-get-self.true in
    let told = c.again-warming.ensures ∙ r.warming_are in
    record {
      entry = subst (HasEntry r c.answer-place.new.self call) (refuses_full r call c.requires.call.call full ∙ ap (TooMany call.caller call.asked.content) (sym told)) c.answer-place.ensures.entry;
      place = c.answer-place.ensures.place;
      told = told;
      full = ap length told ∙ full;
    }

pub answer-place-requires-then-self-ge-LAST_GENERATION-clause-may : goal.answer-place-requires-then-self-ge-LAST_GENERATION-clause-may
answer-place-requires-then-self-ge-LAST_GENERATION-clause-may g c =
    let r = c.args.self.now in
    let room = has_room r c.get.result.now c.get.ensures c.if-get-self.false in
    subst (IsAllowed (limits (plan_of r)) (state_of (limits (plan_of r)) (seen_of r))) (sym (refuses_spent r c.args.call c.requires.call.call (λ e. absurd (omega arith))))
    record { room = room; last = none_left r c.if-self-ge-LAST_GENERATION.true }

pub returns-then-self-ge-LAST_GENERATION-clause-refused : goal.returns-then-self-ge-LAST_GENERATION-clause-refused
returns-then-self-ge-LAST_GENERATION-clause-refused g c =
    let r = c.args.self.now in
    let call = c.args.call in
    let done = c.answer-place-then-self-ge-LAST_GENERATION in
    let room = has_room r c.get.result.now c.get.ensures c.if-get-self.false in
    record {
      entry = subst (HasEntry r done.new.self call) (refuses_spent r call c.requires.call.call (λ e. absurd (omega arith))) done.ensures.entry;
      place = done.ensures.place;
      room = room;
      last = none_left r c.if-self-ge-LAST_GENERATION.true;
    }
