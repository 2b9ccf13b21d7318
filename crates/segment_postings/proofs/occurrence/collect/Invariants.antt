use Rattle.std.proofs.Common.{◌≡◌, map, take}
use Rattle.std.specs.Arc.{arc_value}
use Rattle.segment_postings.specs.Segments.{occurrences}
use Rattle.segment_postings.proofs.occurrence.collect.Given as goal

abbrev pub invariant-loop-number : goal.invariant-loop-number
invariant-loop-number l = l.found.items ≡ occurrences l.field (map arc_value (take l.number l.docs))
