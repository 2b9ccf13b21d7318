use Rattle.std.proofs.Common.{◌++◌, ap, subst, ◌∙◌, refl}
use Rattle.std.specs.List.{IsDistinct}
use Rattle.cache_traces.specs.NamedCache.{named_cache}
use Rattle.cache_traces.specs.Traces.{rules as of}
use Rattle.cache_traces.proofs.Holding.{grown, moved}
use Rattle.cache_traces.proofs.Renaming.{cache_grown}
use Rattle.cache_traces.proofs.cells.TracedCells.number.Goals as goal

pub invariant_of-self : goal.invariant_of-self
invariant_of-self g c =
    let r = of g.K.PartialEq.eq g.V.Value.weight g.V.Value.serves g.V.Counted.numbers g.V.Counted.keeps in
    let inside = c.self.inside in
    let e = c.number.ensures in
    let apart = subst (IsDistinct g.K.PartialEq.eq) e.grows.1 e.distinct in
    let more = grown r inside.trace.keys e.grows.0 apart inside.trace.steps inside.trace.room inside.cells c.self.invariant in
    moved r (inside.trace.keys ++ e.grows.0) c.number.new.self.keys inside.trace.steps c.number.new.self.steps inside.trace.room c.number.new.self.room inside.cells inside.cells more e.grows.1 e.steps e.room refl

pub returns-clause-cache : goal.returns-clause-cache
returns-clause-cache g c =
    let inside = c.self.inside in
    let e = c.number.ensures in
    ap (λ ks. named_cache ks inside.cells) e.grows.1 ∙ cache_grown inside.trace.keys e.grows.0 inside.cells c.self.invariant.in_keys ∙ ap (λ v. v.cache) c.self.view_is
