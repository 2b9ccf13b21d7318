use Rattle.std.proofs.Common.{take, string_bytes}
use Rattle.std.specs.List.{flat_map}
use Rattle.client_runner.specs.OutputPieces.{Grows, request_line}
use Rattle.client_runner.specs.Views.{request_view}
use Rattle.client_runner.proofs.output.put_requests.Given as goal

-- the lines of the rows so far are written
abbrev pub invariant-loop-row : goal.invariant-loop-row
invariant-loop-row l = Grows (string_bytes l.fn.out) (string_bytes l.out) (flat_map (λ r. request_line (request_view r)) (take l.row-index l.rows))
