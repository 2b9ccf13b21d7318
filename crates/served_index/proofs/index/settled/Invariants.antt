use Rattle.std.proofs.Common.{◌≡◌, ◌≤◌, length}
use Rattle.segment_postings.specs.Numbered.{docs}
use Rattle.served_index.proofs.index.settled.Given as goal

abbrev pub invariant-loop-alloc : goal.invariant-loop-alloc
invariant-loop-alloc l = record {
  docs : docs l.settled.seen ≡ docs l.fn.view.seen;
  size : l.settled.seen.size ≤ l.fn.view.seen.size;
}

abbrev pub decreases-loop-alloc : goal.decreases-loop-alloc
decreases-loop-alloc l = length l.settled.keys
