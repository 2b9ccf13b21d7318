use Rattle.std.proofs.Common.{length}
use Rattle.doc_sets.proofs.Lefts.{Walking}
use Rattle.doc_sets.proofs.walk.RowIterIterator.next.Given as goal

abbrev pub invariant-loop-self : goal.invariant-loop-self
invariant-loop-self l = Walking l.fn.self l.self-inside.base l.self-inside.word l.self-inside.words.now

abbrev pub decreases-loop-self : goal.decreases-loop-self
decreases-loop-self l = length l.self-inside.words.now
