use Rattle.std.proofs.Common.{◌≡◌, ◌++◌, List, length, reverse}
use Rattle.query_text.specs.declared.level.Clause.{Clause}
use Rattle.query_text.specs.declared.clause.Mark.TheVariants as as_
use Rattle.query_text.specs.Clauses.{conj_before, marked}
use Rattle.query_text.proofs.clause.sorted.Given as goal

-- the clauses that were taken are sorted
abbrev pub invariant-loop-clause : goal.invariant-loop-clause
invariant-loop-clause l = (done : List Clause) × ((l.fn.clauses ≡ l.clauses ++ done) × (l.behind ≡ conj_before done)
    × (reverse l.must.items ≡ marked as_.Must l.op done) × (reverse l.should.items ≡ marked as_.Should l.op done)
    × (reverse l.not.items ≡ marked as_.Not l.op done))

abbrev pub decreases-loop-clause : goal.decreases-loop-clause
decreases-loop-clause l = length l.clauses
