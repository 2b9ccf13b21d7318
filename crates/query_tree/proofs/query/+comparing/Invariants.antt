use Rattle.std.proofs.Common.{◌≡◌, min, length}
use Rattle.query_tree.specs.Order.{query_cmp}
use Rattle.query_tree.proofs.Comparing.{IsSettledBy}
use Rattle.query_tree.proofs.query.+comparing.Given as goal

-- the queries before this place tie
abbrev pub invariant-compare_all-loop-i : goal.invariant-compare_all-loop-i
invariant-compare_all-loop-i l = (l.i-end ≡ min (length l.queries) (length l.others)) × IsSettledBy query_cmp l.queries l.others l.i
