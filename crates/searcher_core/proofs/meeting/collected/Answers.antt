use Rattle.std.proofs.Common.{◌+◌, ◌≤◌, arith}
use Rattle.searcher_core.proofs.Pages.{enough_collected}
use Rattle.searcher_core.proofs.meeting.collected.Goals as goal

pub returns-clause-enough : goal.returns-clause-enough
returns-clause-enough g c =
    enough_collected (g.P.Reads.view c.args.probe.now) c.args.set.now c.args.request.now.sort (c.args.request.now.start + c.args.request.now.rows) c.window-most.result c.len.result c.in_ok-ids.ids
    c.live-live.ensures.numbered c.requires.live c.len.ensures.documents c.len.ensures.members c.window-most.ensures.reaches c.in_ok-ids.ensures.first

pub returns-clause-window : goal.returns-clause-window
returns-clause-window g c = (c.window-most.result, c.window-most.ensures, c.in_ok-ids.ensures.first)
