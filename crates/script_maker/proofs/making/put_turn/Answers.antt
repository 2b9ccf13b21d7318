use Rattle.std.proofs.Common.{◌∷◌, [], ◌++◌}
use Rattle.std.proofs.lemmas.Result.{IfOk-weaker}
use Rattle.script_maker.specs.Made.{add_line, commit_lines, query_lines}
use Rattle.script_maker.specs.declared.turn.Turn.{Turn}
use Rattle.script_maker.proofs.Joins.{join_lines}
use Rattle.script_maker.proofs.making.put_turn.Goals as goal

-- lines behind lines
pub returns : goal.returns
returns c =
    let t : Turn = c.args.turn.now in
    IfOk-weaker c.put_commit.result _ _
    (λ u h. join_lines (add_line t ∷ []) (query_lines t ++ commit_lines t) c.in_ok-put_add.ensures (join_lines (query_lines t) (commit_lines t) c.in_ok-put_asked.ensures h))
    c.put_commit.ensures
