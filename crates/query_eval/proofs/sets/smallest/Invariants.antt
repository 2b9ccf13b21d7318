use Rattle.std.proofs.Common.{◌<◌, length}
use Rattle.query_eval.proofs.sets.smallest.Given as goal

abbrev pub invariant-loop-i : goal.invariant-loop-i
invariant-loop-i l = l.least < length l.sets
