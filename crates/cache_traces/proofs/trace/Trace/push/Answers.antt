use Rattle.std.proofs.Common.{rules, ◌≡◌, Some, ap, ◌∙◌}
use Rattle.cache_traces.specs.Named.{named, steps_of}
use Rattle.cache_traces.specs.Traced.{and_then}
use Rattle.cache_traces.proofs.Naming.{steps_then}
use Rattle.cache_traces.proofs.trace.Trace.push.Goals as goal

pub returns-clause-step : goal.returns-clause-step
returns-clause-step g c act is =
    let keys = c.self.inside.keys.keys in
    let named_here : named keys c.args.done ≡ Some act = search rules in
    ap (steps_of keys) c.push_reserved.ensures.items
    ∙ steps_then keys c.self.inside.records.items _ act named_here
    ∙ ap (λ v. and_then v.steps c.args.seat act) c.self.view_is
