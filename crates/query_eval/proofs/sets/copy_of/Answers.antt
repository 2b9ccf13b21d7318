use Rattle.std.proofs.Common.{ap, ◌∙◌}
use Rattle.std.specs.FinSet.{union}
use Rattle.std.proofs.lemmas.Result.{IfOk-weaker}
use Rattle.query_eval.proofs.Loops.{with_none}
use Rattle.query_eval.proofs.sets.copy_of.Goals as goal

pub returns : goal.returns
returns c =
    IfOk-weaker c.either-2.result _ _ (λ s e. e ∙ ap (union c.args.from.now) c.new.ensures ∙ with_none c.args.from.now) c.either-2.ensures
