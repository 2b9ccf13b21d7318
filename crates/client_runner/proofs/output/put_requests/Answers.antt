use Rattle.std.proofs.Common.{string_bytes}
use Rattle.client_runner.specs.OutputPieces.{request_line}
use Rattle.client_runner.specs.Views.{request_view}
use Rattle.client_runner.proofs.Joins.{one_more_line}
use Rattle.client_runner.proofs.output.put_requests.Goals as goal

pub loop-row-preserved : goal.loop-row-preserved
loop-row-preserved c =
    one_more_line (λ r. request_line (request_view r)) c.args.rows.now c.loop-row.row-index c.row-item.result
    (string_bytes c.args.out.now) (string_bytes c.loop-row.out) (string_bytes c.put_request.new.out)
    c.loop-row-test.true c.row-item.is c.loop-row.invariant c.in_ok-put_request.ensures
