use Rattle.query_eval.proofs.PositionWalks.{Starts}
use Rattle.query_eval.proofs.phrase.followed.Given as goal

abbrev pub invariant-loop-position : goal.invariant-loop-position
invariant-loop-position l = Starts l.held l.next l.offset l.position-index l.rest l.found.items
