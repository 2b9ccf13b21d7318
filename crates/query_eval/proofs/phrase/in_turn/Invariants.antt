use Rattle.std.proofs.Common.{◌≡◌}
use Rattle.query_eval.specs.Kept.{Kept}
use Rattle.query_eval.proofs.Phrases.{runs_upto}
use Rattle.query_eval.proofs.phrase.in_turn.Given as goal

abbrev pub invariant-loop-i : goal.invariant-loop-i
invariant-loop-i g l =
    (l.held.items ≡ runs_upto l.field l.words l.i (g.P.Reads.view l.fn.probe).list) ×
    Kept g.P.Reads.view g.P.Reads.terms g.P.Reads.counted l.fn.probe l.probe
