use Rattle.std.proofs.Common.{◌≡◌, ◌-◌, ◌++◌, length, drop}
use Rattle.doc_sets.specs.Sets.{members}
use Rattle.sort_window.proofs.walk.highest.Given as goal

-- the numbers so far, and those that are still wanted of what is left
abbrev pub invariant-loop-number : goal.invariant-loop-number
invariant-loop-number l = drop (length (members l.set) - l.most) (members l.set) ≡ l.numbers.items ++ drop l.before l.number-iterator
