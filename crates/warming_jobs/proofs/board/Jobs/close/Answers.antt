use Rattle.std.proofs.Common.{◌∙◌, true≢false, vec_len, sym, subst}
use Rattle.warming_jobs.proofs.Joining.{gathers}
use Rattle.warming_jobs.proofs.Closing.{IsGathered, joins_its_own, none_left, no_items, has_all, handed_out}
use Rattle.warming_jobs.proofs.board.Jobs.close.Goals as goal

pub absorb-requires-clause-queue : goal.absorb-requires-clause-queue
absorb-requires-clause-queue g c =
    let i = c.loop-puller.invariant in
    let p = c.in-Some.puller in
    let own = joins_its_own c.args.pusher c.args.pullers.items c.loop-puller.pullers.items c.pop.new.self.items p c.loop-puller.pass c.args.self c.requires i c.in-Some.ensures.items in
    ((i.table ∙ c.requires.queue, i.idle), (own, p.idle))

pub absorb-requires-clause-rule : goal.absorb-requires-clause-rule
absorb-requires-clause-rule g c = gathers g.J.Job.generation _ _ _ _ _ _ c.loop-puller.invariant.pushes c.in-Some.puller.own

pub drain-requires-clause-all : goal.drain-requires-clause-all
drain-requires-clause-all g c =
    let pullers = c.loop-puller.pullers in
    let none = no_items pullers.items (sym pullers.ok.0 ∙ none_left (vec_len pullers) (λ lt. true≢false (sym (c.in_default.ensures.variant.1 lt)))) in
    has_all c.args.self c.args.pusher c.args.pullers.items c.loop-puller.pass c.requires
    (subst (λ left. IsGathered c.args.pusher c.args.pullers.items left c.loop-puller.pass) none c.loop-puller.invariant)

pub returns : goal.returns
returns g c =
    let pullers = c.loop-puller.pullers in
    let none = no_items pullers.items (sym pullers.ok.0 ∙ none_left (vec_len pullers) (λ lt. true≢false (sym (c.in_default.ensures.variant.1 lt)))) in
    handed_out g.J.Job.generation c.args.self c.args.pusher c.args.pullers.items c.loop-puller.pass c.drain.result.items c.requires
    (subst (λ left. IsGathered c.args.pusher c.args.pullers.items left c.loop-puller.pass) none c.loop-puller.invariant) c.drain.ensures
