use Rattle.std.proofs.Common.{◌≤◌, ◌++◌, ◌∷◌, [], ap, sym, subst, ◌∙◌, map, length}
use Rattle.std.specs.Arc.{arc_value}
use Rattle.std.proofs.lemmas.List.{map-append}
use Rattle.served_index.specs.Pendings.{PendingState}
use Rattle.served_index.proofs.Slots.{documents-few, documents-more_some, documents-more_none}
use Rattle.served_index.proofs.pending.Pending.shared.Goals as goal
use Rattle.served_index.proofs.pending.Pending.shared.Goals.{in-Some+in_ok-try_clone-in-Some+in_ok-push-in-Some, in-None}

pub returns-in_err-try_clone-in-Some-clause-few : goal.returns-in_err-try_clone-in-Some-clause-few
returns-in_err-try_clone-in-Some-clause-few c = subst (λ (k : PendingState). length k.docs ≤ k.slots) c.self.view_is (documents-few c.self.inside.slots.items)

pub returns-in_err-push-in-Some-clause-few : goal.returns-in_err-push-in-Some-clause-few
returns-in_err-push-in-Some-clause-few c = subst (λ (k : PendingState). length k.docs ≤ k.slots) c.self.view_is (documents-few c.self.inside.slots.items)

pub returns-clause-few : goal.returns-clause-few
returns-clause-few c = subst (λ (k : PendingState). length k.docs ≤ k.slots) c.self.view_is (documents-few c.self.inside.slots.items)

pub loop-slot-preserved : goal.loop-slot-preserved
loop-slot-preserved c =
    let slots = c.deref-slot-items.result.now in
    let i = c.loop-slot.slot-index in
    let slot = c.slot-item.result in
    elim c.match-slot.branch [
      | in-Some+in_ok-try_clone-in-Some+in_ok-push-in-Some w ↦
          ap (λ v. map arc_value v.items) w.all-is
          ∙ ap (map arc_value) w.in_ok-push-in-Some.ensures.items
          ∙ map-append arc_value c.loop-slot.all.items (w.in_ok-try_clone-in-Some.field-0 ∷ [])
          ∙ (λ j. c.loop-slot.invariant j ++ w.in_ok-try_clone-in-Some.ensures j ∷ [])
          ∙ sym (documents-more_some slots i slot w.in-Some.doc c.loop-slot-test.true c.slot-item.is w.in-Some.is)
      | in-None w ↦
          ap (λ v. map arc_value v.items) w.all-is
          ∙ c.loop-slot.invariant
          ∙ sym (documents-more_none slots i slot c.loop-slot-test.true c.slot-item.is w.in-None.is)
    ]
