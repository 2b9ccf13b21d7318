use Rattle.std.proofs.Common.{◌≡◌, map, take}
use Rattle.autowarm.specs.WarmRequests.{past_caches}
use Rattle.autowarm.proofs.request.past_caches.Given as goal

-- the filters so far
abbrev pub invariant-loop-query : goal.invariant-loop-query
invariant-loop-query l = l.filters.items ≡ map past_caches (take l.query-index l.queries)
