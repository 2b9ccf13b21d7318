use Rattle.std.proofs.Common.{◌≡◌, ◌+◌, refl, sym, ap, subst}
use Rattle.client_runner.specs.declared.rows.RequestRow.{RequestRow}
use Rattle.client_runner.specs.Runs.{Follows}
use Rattle.client_runner.specs.Standings.{call_of, standing, told_too}
use Rattle.client_runner.specs.Views.{request_view}
use Rattle.client_runner.proofs.Answered.{follows_at, no_memory_follows, one_row_more, same_rows}
use Rattle.client_runner.proofs.Ready.{ready_kept}
use Rattle.client_runner.proofs.runner.Runner.serve.Goals as goal
use Rattle.client_runner.proofs.runner.Runner.serve.Goals.{in-Ok, in-Err+in_ok-no_memory_reply-in-Err}

-- the request was answered, or there was no memory for it
pub returns-clause-follows : goal.returns-clause-follows
returns-clause-follows g c =
    let reserved : standing (record c.args.self.now { rows = c.reserve.new.self }) ≡ standing c.args.self.now =
    same_rows (standing c.args.self.now) c.args.self.now.rows.items c.reserve.new.self.items c.in_ok-reserve.ensures.items in
    let pushed : standing (record c.answer.new.self { rows = c.push.new.self }) ≡ told_too (standing c.answer.new.self) (request_view c.match-answer.row) =
    one_row_more (standing c.answer.new.self) c.answer.new.self.rows.items c.push.new.self.items c.match-answer.row c.in_ok-push.ensures.items in
    let followed : Follows c.args.config.now (call_of c.args.head c.args.body.now) (standing (record c.args.self.now { rows = c.reserve.new.self })) (told_too (standing c.answer.new.self) (request_view c.match-answer.row)) =
    elim c.match-answer.branch [
      | in-Ok w ↦
          follows_at c.args.config.now (call_of c.args.head c.args.body.now) (standing (record c.args.self.now { rows = c.reserve.new.self })) (standing (record c.args.self.now { rows = c.reserve.new.self }))
          (told_too (standing c.answer.new.self) (request_view w.in-Ok.row)) (told_too (standing c.answer.new.self) (request_view c.match-answer.row))
          refl (ap (λ (r : RequestRow). told_too (standing c.answer.new.self) (request_view r)) w.row-is) w.in-Ok.ensures.ok
      | in-Err+in_ok-no_memory_reply-in-Err w ↦
          follows_at c.args.config.now (call_of c.args.head c.args.body.now) (standing c.answer.new.self) (standing (record c.args.self.now { rows = c.reserve.new.self }))
          (told_too (standing c.answer.new.self) (request_view w.row-row.result)) (told_too (standing c.answer.new.self) (request_view c.match-answer.row))
          (sym w.in-Err.ensures.err) (ap (λ (r : RequestRow). told_too (standing c.answer.new.self) (request_view r)) w.row-is)
          (no_memory_follows c.args.config.now c.args.head c.args.body.now (standing c.answer.new.self) w.in_ok-no_memory_reply-in-Err.field-0 (request_view w.row-row.result)
          w.row-row.ensures w.in_ok-no_memory_reply-in-Err.ensures.shown w.in_ok-no_memory_reply-in-Err.ensures.notes)
    ] in
    follows_at c.args.config.now (call_of c.args.head c.args.body.now) (standing (record c.args.self.now { rows = c.reserve.new.self })) (standing c.args.self.now)
    (told_too (standing c.answer.new.self) (request_view c.match-answer.row)) (standing (record c.answer.new.self { rows = c.push.new.self })) (sym reserved) pushed followed

-- the row takes no number
pub returns-clause-ready : goal.returns-clause-ready
returns-clause-ready g c n h =
    ready_kept n c.answer.new.self (record c.answer.new.self { rows = c.push.new.self }) refl refl refl refl
    (c.answer.ensures.ready n (ready_kept (n + 1) c.args.self.now (record c.args.self.now { rows = c.reserve.new.self }) refl refl refl refl h))
