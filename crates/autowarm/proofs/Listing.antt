-- A seat that had keys listed owns what it owned.
use Rattle.std.proofs.Common.{◌≡◌, ℕ, List, None, ap, ◌∙◌}
use Rattle.cache_traces.specs.declared.act.Act.{Act}
use Rattle.cache_traces.specs.declared.act.Act.TheVariants.{Listed}
use Rattle.cache_traces.specs.Acts.{owned_after}
use Rattle.cache_traces.proofs.Owners.{owned_from-then}
use Rattle.shared_cells.specs.Lists.{GoesOnBy}

pub listed_none : {K N : Type 0} (most : ℕ) (keys : List K) (old new : List (Act K N))
    → GoesOnBy (Listed most keys) old new → owned_after old ≡ None → owned_after new ≡ None
listed_none most keys old new is none =
    ap owned_after is ∙ owned_from-then None old (Listed most keys) ∙ none
