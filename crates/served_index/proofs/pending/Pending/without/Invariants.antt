use Rattle.std.proofs.Common.{◌≡◌, ◌≤◌, take, filter}
use Rattle.std.specs.Prelude.{not}
use Rattle.query_tree.specs.Matches.{top}
use Rattle.served_index.specs.Pendings.{documents}
use Rattle.served_index.proofs.pending.Pending.without.Given as goal

-- those of the slots so far that do not match
abbrev pub invariant-loop-slot : goal.invariant-loop-slot
invariant-loop-slot l = record {
  docs : l.kept.docs ≡ filter (λ d. not (top d.values l.query)) (documents (take l.slot-index l.slot-items));
  few : l.kept.slots ≤ l.slot-index;
}
