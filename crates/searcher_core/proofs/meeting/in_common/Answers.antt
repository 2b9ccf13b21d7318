use Rattle.std.proofs.Common.{◌∙◌, ap, subst}
use Rattle.std.specs.Prelude.{option_map}
use Rattle.std.specs.Arc.{arc_value}
use Rattle.std.specs.FinSet.{intersection}
use Rattle.std.proofs.lemmas.Result.{IfOk-weaker}
use Rattle.searcher_core.specs.Meeting.{IsCommonOf}
use Rattle.searcher_core.proofs.Lefts.{common_more}
use Rattle.searcher_core.proofs.meeting.in_common.Goals as goal

pub returns-in-Some : goal.returns-in-Some
returns-in-Some c =
    IfOk-weaker c.both.result _ _
    (λ s e sets is. common_more sets (arc_value c.args.set.now) (arc_value c.in-Some.left) (arc_value s)
    (subst (IsCommonOf sets) (ap (option_map arc_value) c.in-Some.is) is)
    (e ∙ (λ i. intersection (c.deref.ensures i) (c.deref-in-Some.ensures i))))
    c.both.ensures
