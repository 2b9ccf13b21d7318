use Rattle.std.proofs.Common.{◌≡◌, ◌≤◌, ◌+◌, length, vec_capacity}
use Rattle.view_cells.specs.Making.{AreFirst}
use Rattle.view_cells.proofs.make.CellTable.make.Given as goal

abbrev pub invariant-loop-next : goal.invariant-loop-next
invariant-loop-next g l = record {
  room : l.seats ≤ vec_capacity l.made;
  count : length l.made.items + 1 ≡ l.next;
  made : AreFirst l.view l.seats l.made.items l.last;
}
