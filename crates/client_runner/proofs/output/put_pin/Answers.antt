use Rattle.std.proofs.lemmas.Result.{IfOk-weaker}
use Rattle.client_runner.proofs.Joins.{join}
use Rattle.client_runner.proofs.output.put_pin.Goals as goal

pub returns : goal.returns
returns c = IfOk-weaker c.put_small-2.result _ _ (λ u h. join c.in_ok-put_small.ensures h) c.put_small-2.ensures
