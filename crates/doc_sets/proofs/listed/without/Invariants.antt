use Rattle.std.proofs.Common.{not}
use Rattle.doc_sets.specs.Sets.{is_in}
use Rattle.doc_sets.proofs.Walking.{Walked}
use Rattle.doc_sets.proofs.listed.without.Given as goal

abbrev pub invariant-loop-number : goal.invariant-loop-number
invariant-loop-number l = Walked (λ n. not (is_in l.right n)) l.left l.right l.rest l.kept.items l.number-index
