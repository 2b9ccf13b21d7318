use Rattle.std.proofs.Common.{◌≡◌, ◌++◌}
use Rattle.doc_sets.specs.Sets.{members}
use Rattle.served_index.proofs.gone.listed.Given as goal

abbrev pub invariant-loop-number : goal.invariant-loop-number
invariant-loop-number l = members l.all ≡ l.numbers.items ++ l.number-iterator
