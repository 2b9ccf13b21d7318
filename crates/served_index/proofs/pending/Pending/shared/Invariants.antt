use Rattle.std.proofs.Common.{◌≡◌, take, map}
use Rattle.std.specs.Arc.{arc_value}
use Rattle.served_index.specs.Pendings.{documents}
use Rattle.served_index.proofs.pending.Pending.shared.Given as goal

abbrev pub invariant-loop-slot : goal.invariant-loop-slot
invariant-loop-slot l = map arc_value l.all.items ≡ documents (take l.slot-index l.slot-items)
