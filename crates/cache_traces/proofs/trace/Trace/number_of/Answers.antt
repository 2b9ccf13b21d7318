use Rattle.std.proofs.Common.{◌≡◌, Some, sym, ap, ◌∙◌, slice_get}
use Rattle.cache_traces.proofs.Naming.{find-passes}
use Rattle.cache_traces.proofs.trace.Trace.number_of.Goals as goal

pub returns : goal.returns
returns g c =
    let at = c.in_ok-at in
    let passes = find-passes (g.K.PartialEq.eq c.args.key.now) c.self.inside.keys.keys at._key.now (sym at.ensures.key) in
    let same : c.args.key.now ≡ at._key.now = c.requires.same _ _ passes in
    ap (λ v. slice_get v.keys at.at) (sym c.self.view_is) ∙ at.ensures.stored ∙ ap Some (sym same)
