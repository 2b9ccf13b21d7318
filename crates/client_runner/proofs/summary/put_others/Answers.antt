use Rattle.std.proofs.lemmas.Result.{IfOk-weaker}
use Rattle.client_runner.proofs.Joins.{join}
use Rattle.client_runner.proofs.summary.put_others.Goals as goal

-- piece behind piece
pub returns : goal.returns
returns c =
    IfOk-weaker c.put_text.result _ _
    (λ u h.
    join c.in_ok-put_number.ensures
    (join c.in_ok-put_number-2.ensures
    (join c.in_ok-put_number-3.ensures
    (join c.in_ok-put_number-4.ensures
    (join c.in_ok-put_number-5.ensures
    (join c.in_ok-put_number-6.ensures
    (join c.in_ok-put_number-7.ensures h)))))))
    c.put_text.ensures
