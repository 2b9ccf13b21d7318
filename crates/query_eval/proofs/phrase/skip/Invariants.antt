use Rattle.std.proofs.Common.{◌≡◌, length}
use Rattle.query_eval.specs.Runs.{from_position, moved_on}
use Rattle.query_eval.proofs.phrase.skip.Given as goal

abbrev pub invariant-loop-first : goal.invariant-loop-first
invariant-loop-first l = from_position (moved_on l.offset l.position) l.rest ≡ from_position (moved_on l.offset l.position) l.others

abbrev pub decreases-loop-first : goal.decreases-loop-first
decreases-loop-first l = length l.rest
