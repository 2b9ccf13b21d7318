use Rattle.std.proofs.lemmas.Result.{IfOk-weaker}
use Rattle.client_runner.proofs.Joins.{join}
use Rattle.client_runner.proofs.output.put_request.Goals as goal

-- piece behind piece
pub returns : goal.returns
returns c =
    IfOk-weaker c.put_text-2.result _ _
    (λ u h.
    join c.in_ok-put_small.ensures
    (join c.in_ok-put_optional.ensures
    (join c.in_ok-put_small-2.ensures
    (join c.in_ok-put_place.ensures
    (join c.in_ok-put_text.ensures
    (join c.in_ok-put_reply.ensures
    (join c.in_ok-put_optional-2.ensures h)))))))
    c.put_text-2.ensures
