use Rattle.std.proofs.Common.{[], ◌∷◌, ◌++◌, vec_len}
use Rattle.view_cells.specs.Closing.{AreLeft}
use Rattle.view_cells.proofs.make.CellTable.close_all.Given as goal

abbrev pub invariant-loop-other : goal.invariant-loop-other
invariant-loop-other g l = AreLeft (l.initial.seats.items ++ l.initial.one ∷ []) l.seats.items l.one

abbrev pub decreases-loop-other : goal.decreases-loop-other
decreases-loop-other g l = vec_len l.seats
