use Rattle.std.proofs.Common.{vec_len}
use Rattle.searcher_books.proofs.closing.joined.Given as goal
use Rattle.searcher_books.proofs.Joining.{AreJoined}

-- the seats of the doors that are left, and of the last one
abbrev pub invariant-loop-door : goal.invariant-loop-door
invariant-loop-door l = AreJoined l.fn.doors.items l.doors.items l.last

abbrev pub decreases-loop-door : goal.decreases-loop-door
decreases-loop-door l = vec_len l.doors
