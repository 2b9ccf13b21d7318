use Rattle.std.proofs.Common.{refl}
use Rattle.registry_machine.specs.declared.entry.Entry.TheVariants.{Acquire}
use Rattle.searcher_table.specs.Passes.{plan_of}
use Rattle.registry_core.proofs.Holdings.{same_seat, enters_one, not_pinned}
use Rattle.registry_core.proofs.caller.Caller.pin.Goals as goal

pub returns-in-Ok-clause-pinned : goal.returns-in-Ok-clause-pinned
returns-in-Ok-clause-pinned g c =
    let s = c.args.self in
    let pin = c.in-Ok.pin in
    let a = c.in-Ok.ensures.acquired in
    record {
      acquired = a;
      prolongs = (enters_one (plan_of s.pass) s.pass.caller s.pass.place.me.0 pin.place.me.0 (Acquire s.pass.caller pin.generation pin.ticket) s.pass.own s.free refl a.entered).0;
      seat = same_seat s.lock;
    }

pub returns-in-Err-clause-refused : goal.returns-in-Err-clause-refused
returns-in-Err-clause-refused g c = not_pinned c.args.self _ (same_seat c.args.self.lock) c.in-Err.why c.in-Err.ensures.refused
