use Rattle.std.proofs.Common.{ap, subst, ◌∙◌, IfOk}
use Rattle.result_cache.specs.Keys.{HasFilters}
use Rattle.searcher_core.specs.Searches.{queries_of}
use Rattle.searcher_core.proofs.Making.{key_made}
use Rattle.searcher_core.proofs.results.key_of.Goals as goal

pub returns : goal.returns
returns c =
    key_made c.args.request.now c.make.result c.make.ensures.query c.make.ensures.ascending
    (subst (λ fs. IfOk c.make.result (λ key. HasFilters key fs)) (c.in_ok-filters.ensures ∙ ap queries_of c.as_slice.ensures) c.make.ensures.filters) c.make.ensures.sort
