use Rattle.std.proofs.Common.{◌≡◌, ◌≤◌, ◌++◌, length}
use Rattle.doc_sets.specs.Sets.{members}
use Rattle.sort_window.proofs.walk.lowest.Given as goal

abbrev pub invariant-loop-number : goal.invariant-loop-number
invariant-loop-number l = (members l.set ≡ l.numbers.items ++ l.number-iterator) × (length l.numbers.items ≤ l.most)
