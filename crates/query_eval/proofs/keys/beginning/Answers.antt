use Rattle.std.proofs.Common.{ap, ◌∙◌}
use Rattle.std.specs.FinSet.{union}
use Rattle.std.proofs.lemmas.Result.{IfOk-weaker}
use Rattle.segment_postings.specs.Numbered.{Numbered}
use Rattle.segment_postings.specs.declared.span.Span.TheVariants.{Tokens}
use Rattle.segment_postings.specs.Spans.{takes, numbers_within}
use Rattle.query_eval.proofs.Steps.{both_prefixes}
use Rattle.query_eval.proofs.keys.beginning.Goals as goal

pub returns-clause-found : goal.returns-clause-found
returns-clause-found g c =
    let v = g.P.Reads.view c.args.probe.now in
    let p = c.args.prefix in
    let second = c.in_ok-tokens.ensures.numbers ∙ ap (λ (w : Numbered). numbers_within w c.args.field (takes (Tokens p))) c.numbers_within.ensures.view in
    IfOk-weaker c.either.result _ _
    (λ s e. e ∙ (λ j. union (c.in_ok-strings.ensures.numbers j) (second j)) ∙ both_prefixes p c.args.field v c.requires)
    c.either.ensures
