use Rattle.std.proofs.Common.{◌≡◌, ap, sym, ◌∙◌}
use Rattle.std.specs.Arc.{arc_value}
use Rattle.std.specs.FinSet.{intersection, len}
use Rattle.std.proofs.lemmas.Result.{IfOk-weaker}
use Rattle.searcher_core.proofs.Lefts.{none_met, some_met}
use Rattle.searcher_core.proofs.meeting.of_these.Goals as goal

pub returns-then-len-eq0-clause-met : goal.returns-then-len-eq0-clause-met
returns-then-len-eq0-clause-met g c =
    none_met (g.P.Reads.view c.args.probe.now) c.args.query.now (arc_value c.args.left) c.len.result (g.P.Reads.counted c.args.probe.now).postings
    c.live-live.ensures.numbered (c.len.ensures.count ∙ ap len c.deref.ensures) c.if-len-eq0.true

pub returns-clause-met : goal.returns-clause-met
returns-clause-met g c =
    IfOk-weaker c.both.result _ _
    (λ s e. some_met (g.P.Reads.view c.args.probe.now) c.args.query.now (arc_value c.args.left) c.in_ok-found.found (arc_value s) c.len.result
    (g.P.Reads.counted c.args.probe.now).postings (g.P.Reads.counted c.eval.new.probe).postings
    c.live-live.ensures.numbered (c.len.ensures.count ∙ ap len c.deref.ensures) c.if-len-eq0.false c.in_ok-found.ensures.found
    (e ∙ ap (λ n. intersection n c.in_ok-found.found) c.deref-2.ensures) c.in_ok-found.ensures.postings_count)
    c.both.ensures
