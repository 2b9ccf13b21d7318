use Rattle.std.proofs.Common.{ap, sym, subst, ◌∙◌, filter, length, arith}
use Rattle.std.specs.Prelude.{not}
use Rattle.search_model.specs.Live.{has_id}
use Rattle.served_index.specs.Pendings.{emptied, documents, IsPlaced}
use Rattle.served_index.proofs.Slots.{IsWithout, emptied-IsWithout, older_below, IsPlaced-removed}
use Rattle.served_index.proofs.pending.Pending.remove.Goals as goal

without : (c : goal.After-empty) → IsWithout c.args.id.now c.self.inside.slots.items (emptied c.remove-place.result c.self.inside.slots.items)
without c = emptied-IsWithout c.args.id.now c.self.inside.slots.items c.self.inside.places c.remove-place.result c.self.invariant c.remove-place.ensures.value

pub empty-requires : goal.empty-requires
empty-requires c =
    older_below c.args.id.now c.self.inside.slots.items (length c.self.inside.slots.items) c.self.inside.places c.remove-place.result c.self.invariant c.remove-place.ensures.value (omega arith)

pub invariant_of-self : goal.invariant_of-self
invariant_of-self c =
    subst (λ s. IsPlaced s c.remove-place.new.self) (sym c.empty.ensures)
    (IsPlaced-removed c.args.id.now c.self.inside.slots.items (emptied c.remove-place.result c.self.inside.slots.items) c.self.inside.places c.remove-place.new.self
    c.self.invariant (without c) c.remove-place.ensures.updates)

pub returns-clause-docs : goal.returns-clause-docs
returns-clause-docs c =
    ap documents c.empty.ensures ∙ (without c).docs ∙ ap (λ k. filter (λ e. not (has_id c.args.id.now e)) k.docs) c.self.view_is
