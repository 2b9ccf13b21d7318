use Rattle.std.proofs.Common.{◌+◌, ◌<◌, length}
use Rattle.served_index.proofs.index.pair_to_merge.Given as goal

abbrev pub invariant-loop-at : goal.invariant-loop-at
invariant-loop-at l = l.best + 1 < length l.view.keys
