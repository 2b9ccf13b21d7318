use Rattle.std.proofs.Common.{refl, arith}
use Rattle.registry_core.proofs.Opens.{roomier, made_next}
use Rattle.registry_core.proofs.locked.Locked.doors.Goals as goal

pub open-requires : goal.open-requires
open-requires g c =
    let r = c.args.self.now.registrar in
    let s = r.some in
    let f = r.few_callers in
    let n = c.requires.set.callers in
    (omega arith, omega arith)

pub returns-clause-kept : goal.returns-clause-kept
returns-clause-kept g c = roomier g.W.Writer c.args.self.now _ c.requires refl refl (omega arith) c.open.ensures.taken c.open.ensures.setting refl refl refl refl refl (omega arith)

pub returns-clause-doors : goal.returns-clause-doors
returns-clause-doors g c = made_next g.W.Writer g.D.Shown c.args.self.now c.requires c.open.result c.open.ensures.doors
