use Rattle.std.proofs.Common.{sym, ap, ◌∙◌, length}
use Rattle.cache_traces.proofs.Holding.{count_named}
use Rattle.cache_traces.proofs.cells.TracedCells.len.Goals as goal

pub returns : goal.returns
returns g c =
    let inside = c.self.inside in
    c.len.ensures ∙ sym (count_named inside.trace.keys inside.cells.kept.entries c.self.invariant.in_keys.entries_in) ∙ ap (λ v. length v.cache.kept.entries) c.self.view_is
