use Rattle.std.proofs.Common.{◌≡◌, map, take, Bor}
use Rattle.request_form.specs.declared.request.Filter.{Filter}
use Rattle.searcher_core.specs.Searches.{uncached}
use Rattle.searcher_core.proofs.meeting.by_cost.Given as goal

-- the filters so far that may not be cached
abbrev pub invariant-loop-filter : goal.invariant-loop-filter
invariant-loop-filter l = map (λ (f : Bor Filter). f.now) l.turns.items ≡ uncached (take l.filter-index l.filters)
