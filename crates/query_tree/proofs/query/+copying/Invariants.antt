use Rattle.std.proofs.Common.{◌≡◌, take}
use Rattle.query_tree.proofs.query.+copying.Given as goal

-- the queries so far are copied
abbrev pub invariant-copy_queries-loop-query : goal.invariant-copy_queries-loop-query
invariant-copy_queries-loop-query l = l.items.items ≡ take l.query-index l.queries
