use Rattle.std.proofs.Common.{◌≡◌, take}
use Rattle.result_cache.proofs.key.copies.Given as goal

abbrev pub invariant-loop-query : goal.invariant-loop-query
invariant-loop-query l = l.copied.items ≡ take l.query-index l.queries
