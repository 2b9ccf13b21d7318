use Rattle.std.proofs.Common.{◌<◌, ◌≤◌, ◌∙◌, List, length, ap, subst, arith}
use Rattle.crossbeam_queue.specs.Fifo.{Held}
use Rattle.crossbeam_queue.specs.Passes.{view}
use Rattle.warming_jobs.specs.Steps.{IsSettled}
use Rattle.warming_jobs.proofs.Steps.{takes, settles}
use Rattle.warming_jobs.proofs.Joining.{deals, gathers}
use Rattle.warming_jobs.proofs.Draining.{not_the_last, not_empty_yet, all_drained}
use Rattle.warming_jobs.proofs.board.Jobs.drain.Goals as goal

pub another-own-requires-clause-rule : goal.another-own-requires-clause-rule
another-own-requires-clause-rule g c = deals g.J.Job.generation _ _ (ap (λ k. k.pushes) c.len_as-count.ensures.queue.1 ∙ c.requires.pushes)

pub absorb-requires-clause-rule : goal.absorb-requires-clause-rule
absorb-requires-clause-rule g c =
    let dealt = c.another-own.ensures.rule in
    gathers g.J.Job.generation _ _ _ _ _ _ (ap (λ k. k.pushes) dealt.0 ∙ ap (λ k. k.pushes) c.len_as-count.ensures.queue.1 ∙ c.requires.pushes)
    (ap (λ k. k.taken) dealt.1)

pub pop_as-requires-clause-rule : goal.pop_as-requires-clause-rule
pop_as-requires-clause-rule g c =
    let known = c.loop-pass.invariant.known in
    (takes g.J.Job.generation _ _ _ _ _ (ap (λ k. k.taken) known) (not_the_last _ c.requires.all), settles g.J.Job.generation _ _ (ap (λ k. k.pushes) known ∙ c.requires.pushes))

pub unreachable-requires : goal.unreachable-requires
unreachable-requires g c =
    let left = c.loop-pass.left in
    let few : length left.items < c.len_as-count.result = (let n = left.ok.0 in let len = c.len.ensures in let test = c.loop-pass-test.true in omega arith) in
    not_empty_yet g.J.Job.generation (view c.args.pass) c.len_as-count.result left.items c.requires.all c.len_as-count.ensures.rule.1
    (subst (λ k. Held 0 (IsSettled g.J.Job.generation k)) c.loop-pass.invariant.known c.in_default.ensures.rule.1) few

pub learn_as-requires-clause-rule : goal.learn_as-requires-clause-rule
learn_as-requires-clause-rule g c = settles g.J.Job.generation _ _ (ap (λ k. k.pushes) c.loop-pass.invariant.known ∙ c.requires.pushes)

pub returns : goal.returns
returns g c =
    let left = c.loop-pass.left in
    let many : c.len_as-count.result ≤ length left.items = (let n = left.ok.0 in let len = c.len.ensures in let test = c.loop-pass-test.false in omega arith) in
    all_drained g.J.Job.generation (view c.args.pass) c.len_as-count.result left.items c.requires.all c.len_as-count.ensures.rule.1
    (subst (λ k. (rest : List g.row.J.Denot) × IsSettled g.J.Job.generation k rest) c.loop-pass.invariant.known c.learn_as.ensures.rule) many
