use Rattle.std.proofs.Common.{string_bytes, false, None}
use Rattle.client_runner.specs.declared.rows.SearcherRow.{SearcherRow}
use Rattle.client_runner.specs.OutputPieces.{searcher_line}
use Rattle.client_runner.specs.Views.{searcher_view}
use Rattle.client_runner.proofs.Joins.{one_more_at}
use Rattle.client_runner.proofs.output.put_searchers.Goals as goal

no_row : SearcherRow
no_row = record { generation = 0; opened = 0; ended = 0; registered = false; acquired = 0; from = None }

pub loop-row-preserved : goal.loop-row-preserved
unfolding no_row
loop-row-preserved c =
    one_more_at (λ r. searcher_line (searcher_view r)) c.args.rows.now c.loop-row.row-index no_row
    (string_bytes c.args.out.now) (string_bytes c.loop-row.out) (string_bytes c.put_searcher.new.out)
    c.loop-row-test.true c.loop-row.invariant c.in_ok-put_searcher.ensures
