use Rattle.std.proofs.Common.{length, ap, rules, arith}
use Rattle.doc_sets.proofs.Lefts.{walking_more, walking_ends, walking_next}
use Rattle.doc_sets.proofs.walk.RowIterIterator.next.Goals as goal

pub loop-self-preserved : goal.loop-self-preserved
loop-self-preserved c = walking_more _ _ c.loop-self.invariant c.loop-self-test.true c.in_ok-word.ensures.cases.0

pub returns-in_err-word-clause-steps : goal.returns-in_err-word-clause-steps
returns-in_err-word-clause-steps c = rw c.from_residual.ensures (walking_ends c.loop-self.invariant c.loop-self-test.true c.in_err-word.ensures.cases)

pub returns-clause-steps : goal.returns-clause-steps
returns-clause-steps c = walking_next c.loop-self.invariant (omega arith) (omega arith)

pub returns-clause-goes : goal.returns-clause-goes
returns-clause-goes c =
    let next = walking_next c.loop-self.invariant (omega arith) (omega arith) in
    let shorter = ap length next in
    search rules
