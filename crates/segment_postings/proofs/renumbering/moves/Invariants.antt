use Rattle.std.proofs.Common.{◌≡◌, ◌+◌, ◌-◌, ◌≤◌, ◌++◌}
use Rattle.segment_postings.specs.Renumbering.{moves_from}
use Rattle.segment_postings.proofs.renumbering.moves.Given as goal

abbrev pub invariant-loop-i : goal.invariant-loop-i
invariant-loop-i l = record {
  few : l.next ≤ l.first + l.i;
  so_far : l.moves.items ++ moves_from l.live (l.base + l.i) l.next (l.count - l.i) ≡ moves_from l.live l.base l.first l.count;
}
