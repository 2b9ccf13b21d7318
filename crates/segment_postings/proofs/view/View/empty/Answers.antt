use Rattle.std.proofs.Common.{sym, subst, map, ◌∙◌}
use Rattle.std.specs.FinSet.{empty}
use Rattle.std.specs.Ordering.{nat_cmp}
use Rattle.std.specs.Arc.{arc_value}
use Rattle.segment_postings.specs.Views.{IsView}
use Rattle.segment_postings.proofs.ViewLaws.{empty_view}
use Rattle.segment_postings.proofs.view.View.empty.Goals as goal

pub invariant_of-result : goal.invariant_of-result
invariant_of-result c =
    subst (λ s. IsView s 0 (map arc_value c.new-3.result.items)) (sym (c.in_ok-live.ensures.ok ∙ c.new.ensures))
    (subst (λ xs. IsView (empty {R = nat_cmp}) 0 (map arc_value xs)) (sym c.new-3.ensures.items) empty_view)
