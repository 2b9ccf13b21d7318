use Rattle.std.proofs.Common.{◌≡◌, ℕ, ◌++◌, ◌+◌, ◌≤◌, ap, subst, ◌∙◌, arith}
use Rattle.std.specs.Prelude.{not}
use Rattle.std.specs.Arc.{arc_value}
use Rattle.doc_sets.specs.Sets.{is_in}
use Rattle.doc_sets.specs.declared.TheConstants.{MAX_DOCS}
use Rattle.search_model.specs.Live.{deleted_id, after, has_id}
use Rattle.segment_postings.specs.Numbered.{IsNumbered}
use Rattle.segment_postings.specs.Views.{Indexed}
use Rattle.served_index.specs.Standing.{numbers_where}
use Rattle.served_index.proofs.Indexing.{docs-deleted, AreBelow-joined, HaveIds-filtered, IsIndex-changed}
use Rattle.served_index.proofs.index.Index.delete_id.Goals as goal
use Rattle.served_index.proofs.index.Index.delete_id.Goals.{After-drop-id-inside-2}

joined : (c : After-drop-id-inside-2) → c.extend_from_slice.new.self.items ≡ c.self.inside.gone.items ++ c.in_ok-found.found.items
joined c = c.in_ok-extend_from_slice.ensures.items ∙ ap (λ xs. c.self.inside.gone.items ++ xs) c.as_slice.ensures.value

found_at : (c : After-drop-id-inside-2) (n : ℕ) → is_in c.in_ok-found.found.items n ≡ is_in (numbers_where (has_id c.in_ok-id.id) (arc_value c.self.inside.current).seen.list) n
found_at c n = c.in_ok-found.ensures.found n ∙ ap (λ (w : Indexed). is_in (numbers_where (has_id c.in_ok-id.id) w.seen.list) n) c.deref.ensures

pub invariant_of-self-2 : goal.invariant_of-self-2
invariant_of-self-2 c =
    let v = (arc_value c.self.inside.current).seen in
    let old = c.self.inside.pending in
    let most : v.size + old.slots ≤ MAX_DOCS = c.self.invariant.most in
    let less = c.remove.ensures.slots in
    IsIndex-changed v c.self.inside.gone.items c.extend_from_slice.new.self.items old c.remove.new.self c.self.inside.keys.items c.self.invariant
    (AreBelow-joined (has_id c.in_ok-id.id) v c.self.inside.gone.items c.extend_from_slice.new.self.items c.in_ok-found.found.items (subst (λ (w : Indexed). IsNumbered w.seen) c.deref.ensures c.in_ok-found.ensures.numbered) c.self.invariant.below (found_at c) (joined c))
    (HaveIds-filtered (λ e. not (has_id c.in_ok-id.id e)) c.self.inside.keys.items old.docs c.remove.new.self.docs c.self.invariant.pending_ids c.remove.ensures.docs)
    (omega (arith, most, less))

pub returns-clause-ok : goal.returns-clause-ok
returns-clause-ok c =
    docs-deleted (arc_value c.self.inside.current).seen c.self.inside.gone.items c.extend_from_slice.new.self.items c.in_ok-found.found.items c.self.inside.pending.docs c.remove.new.self.docs c.in_ok-id.id
    (subst (λ (w : Indexed). IsNumbered w.seen) c.deref.ensures c.in_ok-found.ensures.numbered) (found_at c) (joined c) c.remove.ensures.docs
    ∙ (λ j. after ((c.self.view_is j).docs) (deleted_id (c.in_ok-id.ensures j)))
