use Rattle.std.proofs.Common.{map, sym, ap, ◌∙◌}
use Rattle.std.proofs.lemmas.Result.{IfOk-weaker}
use Rattle.query_eval.specs.Found.{part}
use Rattle.query_eval.proofs.KindsOfQueries.{answer_other}
use Rattle.query_eval.proofs.Steps.{found_others}
use Rattle.query_eval.proofs.evaluating.eval.Goals as goal

pub parts-requires : goal.parts-requires
parts-requires g c = c.live-live.ensures.numbered

pub nested-requires : goal.nested-requires
nested-requires g c = c.live-live.ensures.numbered

pub nested-requires-in_default : goal.nested-requires-in_default
nested-requires-in_default g c = c.live-live.ensures.numbered

pub returns-in_ok-gone-in-Bool-clause-found : goal.returns-in_ok-gone-in-Bool-clause-found
returns-in_ok-gone-in-Bool-clause-found g c =
    let v = g.P.Reads.view c.args.probe.now in
    IfOk-weaker c.without.result _ _
    (λ s e. found_others v c.args.query.now c.in-Bool.must c.in-Bool.should c.in-Bool.not c.in-Bool.is c.live-live.ensures.numbered
    (sym c.is_negative.ensures ∙ c.if-is_negative.true)
    (g.P.Reads.view c.parts.new.probe) c.in_ok-parts-in-Bool.field-0.items c.live.result.now c.in_ok-gone-in-Bool.gone s
    c.live.ensures.numbers c.parts.ensures.kept.view
    (c.in_ok-parts-in-Bool.ensures.found ∙ ap (map (λ r. part r v)) c.as_slice.ensures)
    c.in_ok-gone-in-Bool.ensures e)
    c.without.ensures

pub returns-else-is_negative-clause-found : goal.returns-else-is_negative-clause-found
returns-else-is_negative-clause-found g c =
    let v = g.P.Reads.view c.args.probe.now in
    IfOk-weaker c.nested.result _ _
    (λ s e. e ∙ answer_other v c.args.query.now c.in-Bool.must c.in-Bool.should c.in-Bool.not c.in-Bool.is c.live-live.ensures.numbered (sym c.is_negative.ensures ∙ c.if-is_negative.false))
    c.nested.ensures.found
