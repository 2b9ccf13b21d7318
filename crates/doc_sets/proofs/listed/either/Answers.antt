use Rattle.std.proofs.Common.{◌++◌, inl, inr, ap, ◌∙◌}
use Rattle.doc_sets.proofs.Merging.{merging_more, merging_all, empty_is}
use Rattle.doc_sets.proofs.listed.either.Goals as goal
use Rattle.doc_sets.proofs.listed.either.Goals.{in_default, in_default-2}

pub loop-first-preserved : goal.loop-first-preserved
loop-first-preserved c =
    (merging_more _ _ _ _ _ _ c.loop-first.invariant c.in-Some-Some.ensures.value c.in-Some-Some.ensures'.value c.min-least.ensures c.in_ok-push.ensures.items
    c.from_number-left_rest.ensures.rises c.from_number-right_rest.ensures.rises c.from_number-left_rest.ensures.same c.from_number-right_rest.ensures.same).0

pub loop-first-smaller : goal.loop-first-smaller
loop-first-smaller c =
    (merging_more _ _ _ _ _ _ c.loop-first.invariant c.in-Some-Some.ensures.value c.in-Some-Some.ensures'.value c.min-least.ensures c.in_ok-push.ensures.items
    c.from_number-left_rest.ensures.rises c.from_number-right_rest.ensures.rises c.from_number-left_rest.ensures.same c.from_number-right_rest.ensures.same).1

pub returns-clause-rises : goal.returns-clause-rises
returns-clause-rises c =
    (merging_all _ c.loop-first.invariant (elim c.match-first.branch [ in_default w ↦ inr (empty_is _ w.in_default.ensures'.value) | in_default-2 w ↦ inl (empty_is _ w.in_default.ensures.value) ])
    (c.in_ok-extend_from_slice-2.ensures.items ∙ ap (λ xs. xs ++ c.loop-first.right_rest.now) c.in_ok-extend_from_slice.ensures.items)).0
