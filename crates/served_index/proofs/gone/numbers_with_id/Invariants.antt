use Rattle.std.proofs.Common.{take}
use Rattle.served_index.proofs.Uniques.{AreFoundIn}
use Rattle.served_index.proofs.gone.numbers_with_id.Given as goal

-- those that have the unique key in one of the fields so far
abbrev pub invariant-loop-key : goal.invariant-loop-key
invariant-loop-key l = AreFoundIn l.view.seen l.probe.view.now.seen l.id l.found.items (take l.key-index l.keys)
