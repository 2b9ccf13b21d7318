use Rattle.std.proofs.Common.{subst}
use Rattle.std.specs.Prelude.{IfOk}
use Rattle.searcher_table.specs.declared.board.Asked.{Asked}
use Rattle.registry_core.specs.Callers.{most_of}
use Rattle.searcher_table.specs.Passes.{sighted}
use Rattle.registry_core.specs.Entering.{IsAccepted, IsCause}
use Rattle.registry_core.proofs.Changing.{table_on, same_changed, none_changed, changed, cause_in, refused}
use Rattle.registry_core.proofs.caller.Caller.change.Goals as goal

pub invariant_of-self : goal.invariant_of-self
invariant_of-self g c =
    let s = c.args.self.now in
    let a = c.announce-call.ensures in
    let e = c.executed-result.ensures in
    let note = c.executed-result.result.1 in
    let accepted = subst (λ r. IfOk r (λ at. IsAccepted c.announce-call.result at (most_of s) (sighted note))) c.in-Ok.is e.accepted in
    record {
      at_table = table_on s.lock c.executed-result.new.lock s.pass c.meet.new.self s.at_table e.back.seat
          (same_changed s.pass c.announce-call.new.self c.meet.new.self c.announce-call.result note c.args.content (most_of s) a.pass a.call c.in-Ok.place accepted c.meet.ensures);
      idle = e.back.idle;
      free = none_changed s.pass c.announce-call.new.self c.meet.new.self c.announce-call.result note c.args.content (most_of s) a.pass a.call c.in-Ok.place accepted c.meet.ensures;
    }

pub returns-in-Ok-clause-changed : goal.returns-in-Ok-clause-changed
returns-in-Ok-clause-changed g c =
    let s = c.args.self.now in
    let a = c.announce-call.ensures in
    let e = c.executed-result.ensures in
    let note = c.executed-result.result.1 in
    let accepted = subst (λ r. IfOk r (λ at. IsAccepted c.announce-call.result at (most_of s) (sighted note))) c.in-Ok.is e.accepted in
    changed s _ c.announce-call.new.self c.announce-call.result note c.args.content a.pass a.call e.back.seat c.in-Ok.place accepted c.meet.ensures

pub returns-in-Err-clause-refused : goal.returns-in-Err-clause-refused
returns-in-Err-clause-refused g c =
    let s = c.args.self.now in
    let a = c.announce-call.ensures in
    let e = c.executed-result.ensures in
    let note = c.executed-result.result.1 in
    let given = cause_in (most_of s) (sighted note) c.announce-call.result.asked.content.update c.in-Err.is e.cause in
    let cause = subst (λ (q : Asked _). IsCause (most_of s) (sighted note) q.content.update c.in-Err.why) a.call.asked given in
    refused s _ c.announce-call.new.self c.announce-call.result note c.args.content a.pass a.call e.back.seat c.withdraw.new.self c.withdraw.ensures.pass c.meet-in-Err.ensures c.in-Err.why cause
