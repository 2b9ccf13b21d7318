use Rattle.std.proofs.Common.{◌≡◌, replicate, None}
use Rattle.cache_cells.proofs.cells.Cells.new.Given as goal

abbrev pub invariant-loop-seat : goal.invariant-loop-seat
invariant-loop-seat g l = l.pending.items ≡ replicate l._seat None
