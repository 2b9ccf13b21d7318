use Rattle.std.proofs.Common.{◌≤◌, vec_capacity}
use Rattle.table_rows.specs.TableTrials.{AreShowing}
use Rattle.table_rows.proofs.desk.doors.Given as goal

abbrev pub invariant-loop-index : goal.invariant-loop-index
invariant-loop-index l = record {
  room : l.count ≤ vec_capacity l.doors;
  shown : AreShowing (λ d. d.number) 9 l.index l.doors.items;
}
