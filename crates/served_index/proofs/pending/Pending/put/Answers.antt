use Rattle.std.proofs.Common.{◌≡◌, ◌++◌, ◌∷◌, [], ◌+◌, Some, length, ap, sym, ◌∙◌, subst, rules, arith}
use Rattle.std.specs.Arc.{arc_value}
use Rattle.std.proofs.lemmas.List.{length-append}
use Rattle.search_model.specs.Live.{added, after}
use Rattle.served_index.specs.Pendings.{emptied, documents, IsPlaced, id_of}
use Rattle.served_index.proofs.Slots.{IsPlaced-put, IsWithout, emptied-IsWithout, emptied-pushed, documents-put, older-within, older_below}
use Rattle.served_index.proofs.pending.Pending.put.Goals as goal

-- ---- what holds once the new document is in its slot, and the map leads to it

key_of_doc : (c : goal.After-empty) → c.in_ok-key.key ≡ id_of c.args.doc
key_of_doc c = c.in_ok-key.ensures ∙ c.id.ensures ∙ ap (λ d. d.id) c.deref.ensures

older_gone : (c : goal.After-empty) → IsWithout c.in_ok-key.key c.self.inside.slots.items (emptied c.in-Ok.older c.self.inside.slots.items)
older_gone c = emptied-IsWithout c.in_ok-key.key c.self.inside.slots.items c.self.inside.places c.in-Ok.older c.self.invariant c.in-Ok.ensures.old

slots_now : (c : goal.After-empty) → c.empty.new.slots.items ≡ emptied c.in-Ok.older c.self.inside.slots.items ++ Some c.args.doc ∷ []
slots_now c =
    let slots = c.self.inside.slots.items in
    c.empty.ensures ∙ ap (emptied c.in-Ok.older) c.in_ok-push.ensures.items
    ∙ emptied-pushed slots c.in-Ok.older (Some c.args.doc) (older-within c.in_ok-key.key slots c.self.inside.places c.in-Ok.older c.self.invariant c.in-Ok.ensures.old)

-- ---- the answers

pub empty-requires : goal.empty-requires
empty-requires c =
    let slots = c.self.inside.slots.items in
    let long : length c.push.new.self.items ≡ length slots + 1 = ap length c.in_ok-push.ensures.items ∙ length-append slots (Some c.args.doc ∷ []) in
    older_below c.in_ok-key.key slots (length c.push.new.self.items) c.self.inside.places c.in-Ok.older c.self.invariant c.in-Ok.ensures.old (omega (arith, long))

pub invariant_of-self-in-Ok : goal.invariant_of-self-in-Ok
invariant_of-self-in-Ok c =
    let slots = c.self.inside.slots.items in
    let at_end : c.len-last.result ≡ length slots = search rules in
    subst (λ s. IsPlaced s c.insert.new.self) (sym (slots_now c))
    (IsPlaced-put c.in_ok-key.key slots (emptied c.in-Ok.older slots) c.args.doc c.self.inside.places c.insert.new.self c.len-last.result c.self.invariant
    (older_gone c) (key_of_doc c) at_end c.in-Ok.ensures.updates)

pub returns-in-Ok-clause-ok : goal.returns-in-Ok-clause-ok
returns-in-Ok-clause-ok c =
    let slots = c.self.inside.slots.items in
    ap documents (slots_now c)
    ∙ documents-put c.in_ok-key.key slots (emptied c.in-Ok.older slots) c.args.doc (older_gone c) (key_of_doc c)
    ∙ ap (λ k. after k.docs (added (arc_value c.args.doc))) c.self.view_is
