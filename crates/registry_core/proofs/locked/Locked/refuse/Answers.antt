use Rattle.std.proofs.Common.{◌≡◌, Some, refl, sym, arith}
use Rattle.registry_core.specs.Journal.{entry_told, by_caller}
use Rattle.registry_core.specs.Opening.{refusal_told}
use Rattle.registry_core.proofs.Kept.{places_kept}
use Rattle.registry_core.proofs.Opens.{refuses, is_refused}
use Rattle.registry_core.proofs.locked.Locked.refuse.Goals as goal

pub execute_open-requires-clause-room : goal.execute_open-requires-clause-room
execute_open-requires-clause-room g c =
    let l = c.args.self.now in
    let a = places_kept g.W.Writer l c.requires.kept in
    let b = l.journal.ok.0 in
    let s = l.journal.small in
    let r = c.requires.room in
    omega arith

pub returns-clause-kept : goal.returns-clause-kept
returns-clause-kept g c =
    let l = c.args.self.now in
    let a = c.args.call in
    let tells : entry_told (record { caller = Some c.args.caller; line = Some c.content.result.now.line; what = c.told-what.result }) ≡ by_caller a.caller a.asked.content (refusal_told c.in-Err.why) =
    λ i. record { caller = Some (sym c.requires.here.caller_is i); line = Some ((c.content.ensures i).line); what = c.told-what.ensures i } in
    refuses g.W.Writer l _ a _ c.requires.kept c.push_reserved.ensures.items refl refl refl refl (let r = c.requires.room in let b = l.journal.ok.0 in omega arith) refl c.requires.kept.ended.space c.in-Err.why c.in-Err.ensures.refused tells refl

pub returns-clause-refused : goal.returns-clause-refused
returns-clause-refused g c = is_refused c.args.self.now.registrar c.execute_open.new.self c.args.call c.in-Err.why c.in-Err.ensures.refused
