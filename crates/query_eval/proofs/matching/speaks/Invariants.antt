use Rattle.std.proofs.Common.{◌≡◌, false, take}
use Rattle.std.specs.List.{list_any}
use Rattle.query_tree.specs.Matches.{has_words}
use Rattle.query_eval.proofs.matching.speaks.Given as goal

abbrev pub invariant-loop-value : goal.invariant-loop-value
invariant-loop-value l = list_any (has_words l.words) (take l.value-index l.value-items) ≡ false
