use Rattle.std.proofs.Common.{subst}
use Rattle.std.specs.Prelude.{IfOk}
use Rattle.view_cells.specs.Seats.{view_of}
use Rattle.searcher_table.specs.Passes.{sighted}
use Rattle.searcher_table.specs.Registrars.{table_of, plan_of}
use Rattle.registry_core.specs.Opening.{IsExecuted}
use Rattle.registry_core.proofs.Changing.{table_on}
use Rattle.registry_core.proofs.Committing.{same_after, none_executed, answered_ok, answered_err, uncommitted, to_open}
use Rattle.registry_core.proofs.caller.Caller.commit.Goals as goal

pub invariant_of-self : goal.invariant_of-self
invariant_of-self g c =
    let s = c.args.self.now in
    let a = c.announce-call.ensures in
    let e = c.executed-result.ensures in
    let p = c.announce-call.new.self in
    let call = c.announce-call.result in
    let note = c.executed-result.result.1 in
    let terms = (view_of s.lock).registrar.value in
    let x = subst (λ r. IfOk r (IsExecuted (plan_of terms).setting.value g.W.Writer.shows (table_of terms) call (sighted note))) c.in-Ok.is e.executed in
    record {
      at_table = table_on s.lock c.executed-result.new.lock s.pass c.meet.new.self s.at_table e.back.seat (same_after s.pass p c.meet.new.self call note (to_open c.args.line) a.pass a.call c.meet.ensures);
      idle = e.back.idle;
      free = none_executed s.pass p c.meet.new.self call note (to_open c.args.line) a.pass a.call (plan_of terms).setting.value g.W.Writer.shows (table_of terms) c.in-Ok.executed x c.meet.ensures;
    }

pub returns-in-Ok-clause-opened : goal.returns-in-Ok-clause-opened
returns-in-Ok-clause-opened g c =
    let s = c.args.self.now in
    let a = c.announce-call.ensures in
    let e = c.executed-result.ensures in
    let call = c.announce-call.result in
    let note = c.executed-result.result.1 in
    let terms = (view_of s.lock).registrar.value in
    let x = subst (λ r. IfOk r (IsExecuted (plan_of terms).setting.value g.W.Writer.shows (table_of terms) call (sighted note))) c.in-Ok.is e.executed in
    answered_ok g.W.Writer s _ c.announce-call.new.self call note c.args.line a.pass a.call e.back.seat c.in-Ok.executed x c.meet.ensures c.answered.result c.answered.ensures

pub returns-in-Ok-clause-refused : goal.returns-in-Ok-clause-refused
returns-in-Ok-clause-refused g c =
    let s = c.args.self.now in
    let a = c.announce-call.ensures in
    let e = c.executed-result.ensures in
    let call = c.announce-call.result in
    let note = c.executed-result.result.1 in
    let terms = (view_of s.lock).registrar.value in
    let x = subst (λ r. IfOk r (IsExecuted (plan_of terms).setting.value g.W.Writer.shows (table_of terms) call (sighted note))) c.in-Ok.is e.executed in
    answered_err g.W.Writer s _ c.announce-call.new.self call note c.args.line a.pass a.call e.back.seat c.in-Ok.executed x c.meet.ensures c.answered.result c.answered.ensures

pub returns-in-Err-clause-refused : goal.returns-in-Err-clause-refused
returns-in-Err-clause-refused g c =
    let s = c.args.self.now in
    let a = c.announce-call.ensures in
    uncommitted g.W.Writer s _ c.announce-call.new.self c.announce-call.result c.executed-result.result.1 c.args.line a.pass a.call c.executed-result.ensures.back.seat c.withdraw.new.self c.withdraw.ensures.pass c.meet-in-Err.ensures
