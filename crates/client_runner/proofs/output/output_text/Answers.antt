use Rattle.std.proofs.Common.{◌∙◌}
use Rattle.client_runner.specs.Outputs.{output_view}
use Rattle.client_runner.proofs.Joins.{behind_nothing, join}
use Rattle.client_runner.proofs.LineTexts.{whole_text}
use Rattle.client_runner.proofs.output.output_text.Goals as goal

-- the lines of the requests behind nothing, and those of the searchers behind these
pub returns : goal.returns
returns c =
    c.new.ensures
    ∙ behind_nothing c.new-out.ensures.bytes (join c.in_ok-put_requests.ensures c.in_ok-put_searchers.ensures)
    ∙ whole_text c.get.result.now c.get-2.result.now (output_view c.args.output.now) c.get.ensures c.get-2.ensures
