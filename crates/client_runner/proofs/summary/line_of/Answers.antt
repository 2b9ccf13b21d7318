use Rattle.std.proofs.Common.{◌∙◌}
use Rattle.client_runner.specs.Totals.{totals_view}
use Rattle.client_runner.proofs.Joins.{behind_nothing, join}
use Rattle.client_runner.proofs.TotalsText.{totals_text}
use Rattle.client_runner.proofs.summary.line_of.Goals as goal

-- the pieces behind nothing
pub returns : goal.returns
returns c =
    c.new.ensures
    ∙ behind_nothing c.new-out.ensures.bytes (join c.in_ok-put_first.ensures c.in_ok-put_others.ensures)
    ∙ totals_text (totals_view c.args.totals.now)
