use Rattle.std.proofs.Common.{take}
use Rattle.client_runner.specs.Totals.{AreSums}
use Rattle.client_runner.proofs.summary.sums_of.Given as goal

-- the sums are those of the rows so far
abbrev pub invariant-loop-row : goal.invariant-loop-row
invariant-loop-row l = AreSums (take l.row-index l.rows) l.sums
