use Rattle.std.proofs.Common.{◌≡◌, ◌+◌, ◌++◌, map, take}
use Rattle.std.specs.Arc.{arc_value}
use Rattle.segment_postings.specs.Views.{live_from}
use Rattle.segment_postings.proofs.packing.add_live.Given as goal

abbrev pub invariant-loop-doc : goal.invariant-loop-doc
invariant-loop-doc l = record {
  at : l.number ≡ l.base + l.doc-index;
  so_far : map arc_value l.all.items ≡ map arc_value l.initial.all.items ++ live_from l.live l.base (map arc_value (take l.doc-index l.docs));
}
