use Rattle.std.proofs.Common.{◌≡◌, map, take}
use Rattle.query_eval.specs.Found.{part}
use Rattle.query_eval.specs.Kept.{Kept}
use Rattle.query_eval.proofs.evaluating.+evaluating.Given as goal

abbrev pub invariant-parts-loop-query : goal.invariant-parts-loop-query
invariant-parts-loop-query g l =
    (l.sets.items ≡ map (λ q. part q (g.P.Reads.view l.fn.probe)) (take l.query-index l.queries)) ×
    Kept g.P.Reads.view g.P.Reads.terms g.P.Reads.counted l.fn.probe l.probe
