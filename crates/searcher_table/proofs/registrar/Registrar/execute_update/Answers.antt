use Rattle.std.proofs.Common.{sym, subst}
use Rattle.registry_machine.specs.Legal.{IsAllowed, state_of}
use Rattle.searcher_table.specs.Words.{limits}
use Rattle.searcher_table.specs.Registrars.{plan_of, seen_of, HasEntry}
use Rattle.searcher_table.proofs.Registering.{updates}
use Rattle.searcher_table.proofs.registrar.Registrar.execute_update.Goals as goal

pub answer-requires-clause-may : goal.answer-requires-clause-may
answer-requires-clause-may g c =
    let r = c.args.self.now in
    subst (IsAllowed (limits (plan_of r)) (state_of (limits (plan_of r)) (seen_of r))) (sym (updates r c.args.call c.requires.call.call)) tt

pub returns-clause-entry : goal.returns-clause-entry
returns-clause-entry g c = subst (HasEntry c.args.self.now c.answer.new.self c.args.call) (updates c.args.self.now c.args.call c.requires.call.call) c.answer.ensures.entry
