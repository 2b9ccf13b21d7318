use Rattle.std.proofs.Common.{ap, sym, subst, ◌∙◌, filter, arith}
use Rattle.std.specs.Prelude.{not}
use Rattle.query_tree.specs.Matches.{top}
use Rattle.served_index.specs.Pendings.{IsPlaced}
use Rattle.served_index.proofs.Slots.{without-more, documents-more_none}
use Rattle.served_index.proofs.pending.Pending.without.Goals as goal
use Rattle.served_index.proofs.pending.Pending.without.Goals.{in-Some+in_ok-keep-in-Some, in-None}

pub loop-slot-preserved : goal.loop-slot-preserved
loop-slot-preserved c =
    let slots = c.deref-slot-items.result.now in
    let i = c.loop-slot.slot-index in
    let slot = c.slot-item.result in
    let placed : IsPlaced slots c.self.inside.places = subst (λ s. IsPlaced s c.self.inside.places) (sym c.deref-slot-items.ensures.value) c.self.invariant in
    elim c.match-slot.branch [
      | in-Some+in_ok-keep-in-Some w ↦ record {
        docs =
            ap (λ k. k.docs) w.kept-is
            ∙ without-more (λ d. top d.values c.args.query.now) slots c.self.inside.places i slot w.in-Some.doc c.loop-slot.kept.docs w.keep.new.kept.docs placed
            c.loop-slot-test.true c.slot-item.is w.in-Some.is c.loop-slot.invariant.docs w.in_ok-keep-in-Some.ensures.ok;
        few =
            let same = ap (λ k. k.slots) w.kept-is in
            let more = w.in_ok-keep-in-Some.ensures.slots in
            let before = c.loop-slot.invariant.few in
            omega (arith, same, more, before);
      }
      | in-None w ↦ record {
        docs =
            ap (λ k. k.docs) w.kept-is ∙ c.loop-slot.invariant.docs
            ∙ ap (filter (λ d. not (top d.values c.args.query.now))) (sym (documents-more_none slots i slot c.loop-slot-test.true c.slot-item.is w.in-None.is));
        few =
            let same = ap (λ k. k.slots) w.kept-is in
            let before = c.loop-slot.invariant.few in
            omega (arith, same, before);
      }
    ]
