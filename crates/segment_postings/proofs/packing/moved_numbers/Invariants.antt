use Rattle.std.proofs.Common.{◌≡◌, filter}
use Rattle.std.specs.List.{range_with_len}
use Rattle.segment_postings.specs.Views.{is_moved}
use Rattle.segment_postings.proofs.packing.moved_numbers.Given as goal

abbrev pub invariant-loop-number : goal.invariant-loop-number
invariant-loop-number l = l.numbers.items ≡ filter (is_moved l.live l.packing) (range_with_len 0 l.number)
