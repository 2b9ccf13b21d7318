use Rattle.std.proofs.Common.{refl, arith}
use Rattle.registry_core.proofs.Opens.{roomier}
use Rattle.registry_core.proofs.locked.Locked.reserve.Goals as goal

pub returns-clause-kept : goal.returns-clause-kept
returns-clause-kept g c = roomier g.W.Writer c.args.self.now _ c.requires refl c.try_reserve.ensures.items c.try_reserve.ensures.capacity refl refl refl refl refl refl c.try_reserve-2.ensures.items c.try_reserve-2.ensures.capacity

pub returns-in_default-clause-kept : goal.returns-in_default-clause-kept
returns-in_default-clause-kept g c = roomier g.W.Writer c.args.self.now _ c.requires refl c.try_reserve.ensures.items c.try_reserve.ensures.capacity refl refl refl refl refl refl refl (omega arith)

pub returns-in_default-try_reserve-clause-kept : goal.returns-in_default-try_reserve-clause-kept
returns-in_default-try_reserve-clause-kept g c = roomier g.W.Writer c.args.self.now _ c.requires refl c.try_reserve.ensures.items c.try_reserve.ensures.capacity refl refl refl refl refl refl c.try_reserve-2.ensures.items c.try_reserve-2.ensures.capacity
