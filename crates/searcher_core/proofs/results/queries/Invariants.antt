use Rattle.std.proofs.Common.{◌≡◌, take}
use Rattle.searcher_core.specs.Searches.{queries_of}
use Rattle.searcher_core.proofs.results.queries.Given as goal

-- copies of the filters' queries so far
abbrev pub invariant-loop-filter : goal.invariant-loop-filter
invariant-loop-filter l = l.copies.items ≡ queries_of (take l.filter-index l.filters)
