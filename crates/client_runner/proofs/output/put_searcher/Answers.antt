use Rattle.std.proofs.lemmas.Result.{IfOk-weaker}
use Rattle.client_runner.proofs.Joins.{join}
use Rattle.client_runner.proofs.output.put_searcher.Goals as goal

-- piece behind piece
pub returns : goal.returns
returns c =
    IfOk-weaker c.put_text.result _ _
    (λ u h.
    join c.in_ok-put_small.ensures
    (join c.in_ok-put_end.ensures
    (join c.in_ok-put_from.ensures
    (join c.in_ok-put_small-2.ensures
    (join c.in_ok-put_number.ensures
    (join c.in_ok-put_end-2.ensures h))))))
    c.put_text.ensures
