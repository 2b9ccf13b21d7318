use Rattle.std.proofs.Common.{◌≡◌, ◌++◌, take}
use Rattle.std.specs.List.{enumerate_from, flat_map}
use Rattle.segment_postings.specs.Segments.{of_value}
use Rattle.segment_postings.proofs.occurrence.add_values.Given as goal

abbrev pub invariant-loop-i : goal.invariant-loop-i
invariant-loop-i l = l.found.items ≡ l.initial.found.items ++ flat_map (of_value l.doc) (enumerate_from 0 (take l.i l.values))
