use Rattle.std.proofs.Common.{◌≡◌, Some, refl, sym, arith}
use Rattle.registry_core.specs.declared.journal.Happened.TheVariants.{Opened}
use Rattle.searcher_table.specs.Registrars.{plan_of, seen_of}
use Rattle.registry_core.specs.Journal.{entry_told, by_caller, updates_of}
use Rattle.registry_core.proofs.Kept.{places_kept}
use Rattle.registry_core.proofs.Opens.{are_doors, opens, is_opened}
use Rattle.registry_core.proofs.locked.Locked.begin.Goals as goal

pub execute_open-requires-clause-room : goal.execute_open-requires-clause-room
execute_open-requires-clause-room g c =
    let l = c.args.self.now in
    let a = places_kept g.W.Writer l c.requires.kept in
    let b = l.journal.ok.0 in
    let s = l.journal.small in
    let r = c.requires.room in
    omega arith

pub execute_open-requires-clause-fit : goal.execute_open-requires-clause-fit
execute_open-requires-clause-fit g c =
    let r = c.args.self.now.registrar in
    λ _. are_doors g.D.Shown (plan_of r).setting.value (g.W.Writer.shows (updates_of (seen_of r))) (plan_of r).callers r c.args.doors.items c.args.own c.requires.doors refl refl

pub returns-clause-kept : goal.returns-clause-kept
returns-clause-kept g c =
    let l = c.args.self.now in
    let a = c.args.call in
    let o = c.in-Ok.opening in
    let tells : entry_told (record { caller = Some c.args.caller; line = Some c.content.result.now.line; what = Opened c.generation.result }) ≡ by_caller a.caller a.asked.content (Opened o.generation) =
    λ i. record { caller = Some (sym c.requires.here.caller_is i); line = Some ((c.content.ensures i).line); what = Opened (c.generation.ensures i) } in
    opens g.W.Writer l _ a _ c.requires.kept c.push_reserved.ensures.items refl refl refl refl (let r = c.requires.room in let b = l.journal.ok.0 in omega arith) refl (let q = c.requires.space in let f = l.finishes.ok.0 in omega arith) c.args.doors.items c.args.own c.requires.doors o c.in-Ok.ensures.opened tells refl

pub returns-clause-opened : goal.returns-clause-opened
returns-clause-opened g c =
    let r = c.args.self.now.registrar in
    is_opened g.W.Writer r c.execute_open.new.self c.args.call c.args.doors.items c.args.own c.requires.doors c.in-Ok.opening c.in-Ok.ensures.opened
