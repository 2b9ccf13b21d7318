use Rattle.std.proofs.Common.{◌≡◌, ℕ, List, ◌++◌, ◌+◌, ◌<◌, ◌≤◌, length, take, ap, sym, subst, ◌∙◌, arith, rules}
use Rattle.std.proofs.Math.Seq.{take-append_seam}
use Rattle.std.specs.Arc.{arc_value}
use Rattle.doc_model.specs.Document.{Document, IsIdAt}
use Rattle.doc_sets.specs.Sets.{is_in}
use Rattle.doc_sets.specs.declared.TheConstants.{MAX_DOCS}
use Rattle.search_model.specs.Live.{added, after, has_id}
use Rattle.segment_postings.specs.Numbered.{IsNumbered, docs}
use Rattle.segment_postings.specs.Views.{Indexed}
use Rattle.served_index.specs.IndexState.{IndexState}
use Rattle.served_index.specs.Standing.{AreBelow, HaveIds, IsIndex, numbers_where}
use Rattle.served_index.proofs.Indexing.{docs-added, AreBelow-joined, HaveIds-added, IsIndex-changed, IsIndex-more, has_its_own}
use Rattle.served_index.proofs.Uniques.{HaveIds-more}
use Rattle.served_index.proofs.index.Index.add.Goals as goal
use Rattle.served_index.proofs.index.Index.add.Goals.{After-drop-found-in-Ok, After-truncate}

joined : (c : After-drop-found-in-Ok) → c.extend_from_slice.new.self.items ≡ c.self.inside.gone.items ++ c.in_ok-found.found.items
joined c = c.in_ok-extend_from_slice.ensures.items ∙ ap (λ xs. c.self.inside.gone.items ++ xs) c.as_slice.ensures.value

more_fields : (c : After-drop-found-in-Ok) → IsIndex (arc_value c.self.inside.current).seen c.self.inside.gone.items c.self.inside.pending c.note_field.new.fields.items
more_fields c = IsIndex-more (arc_value c.self.inside.current).seen c.self.inside.gone.items c.self.inside.pending c.self.inside.keys.items c.note_field.new.fields.items c.note_field.ensures.stay c.self.invariant

found_at : (c : After-drop-found-in-Ok) (n : ℕ) → is_in c.in_ok-found.found.items n ≡ is_in (numbers_where (has_id c.id.result.now) (arc_value c.self.inside.current).seen.list) n
found_at c n = c.in_ok-found.ensures.found n ∙ ap (λ (w : Indexed). is_in (numbers_where (has_id c.id.result.now) w.seen.list) n) c.deref-2.ensures

pub invariant_of-self-in-Ok : goal.invariant_of-self-in-Ok
invariant_of-self-in-Ok c =
    let v = (arc_value c.self.inside.current).seen in
    let old = c.self.inside.pending in
    let room : v.size + old.slots < MAX_DOCS = subst (λ (k : IndexState). k.numbers < MAX_DOCS) (sym c.self.view_is) c.requires.room in
    let more : c.put.new.self.slots ≤ old.slots + 1 = c.in-Ok.ensures.slots in
    IsIndex-changed v c.self.inside.gone.items c.extend_from_slice.new.self.items old c.put.new.self c.note_field.new.fields.items (more_fields c)
    (AreBelow-joined (has_id c.id.result.now) v c.self.inside.gone.items c.extend_from_slice.new.self.items c.in_ok-found.found.items (subst (λ (w : Indexed). IsNumbered w.seen) c.deref-2.ensures c.in_ok-found.ensures.numbered) c.self.invariant.below (found_at c) (joined c))
    (HaveIds-added c.note_field.new.fields.items old.docs c.put.new.self.docs (arc_value c.args.doc) (more_fields c).pending_ids
    (has_its_own c.note_field.new.fields.items c.key_field.result (arc_value c.args.doc) c.in_ok-note_field.ensures.there (subst (λ (d : Document). IsIdAt d c.key_field.result) c.deref.ensures c.key_field.ensures))
    c.in-Ok.ensures.ok)
    (omega (arith, room, more))

same : (c : After-truncate) → c.truncate.new.self.items ≡ c.self.inside.gone.items
same c =
    let at : c.len-before.result ≡ length c.self.inside.gone.items = search rules in
    c.truncate.ensures.items ∙ (λ j. take (at j) (c.in_ok-extend_from_slice.ensures.items j)) ∙ take-append_seam c.self.inside.gone.items c.as_slice.result.now

pub invariant_of-self-in-Err : goal.invariant_of-self-in-Err
invariant_of-self-in-Err c =
    let v = (arc_value c.self.inside.current).seen in
    let old = c.self.inside.pending in
    let room : v.size + old.slots < MAX_DOCS = subst (λ (k : IndexState). k.numbers < MAX_DOCS) (sym c.self.view_is) c.requires.room in
    let slots : c.put.new.self.slots ≤ old.slots + 1 = c.in-Err.ensures.slots in
    let more = IsIndex-more v c.self.inside.gone.items old c.self.inside.keys.items c.note_field.new.fields.items c.note_field.ensures.stay c.self.invariant in
    IsIndex-changed v c.self.inside.gone.items c.truncate.new.self.items old c.put.new.self c.note_field.new.fields.items more
    (subst AreBelow (sym (same c)) c.self.invariant.below)
    (subst (HaveIds c.note_field.new.fields.items) (sym c.in-Err.ensures.err) more.pending_ids)
    (omega (arith, room, slots))

pub returns-in-Ok-clause-ok : goal.returns-in-Ok-clause-ok
returns-in-Ok-clause-ok c =
    docs-added (arc_value c.self.inside.current).seen c.self.inside.gone.items c.extend_from_slice.new.self.items c.in_ok-found.found.items c.self.inside.pending.docs c.put.new.self.docs c.id.result.now (arc_value c.args.doc)
    (subst (λ (w : Indexed). IsNumbered w.seen) c.deref-2.ensures c.in_ok-found.ensures.numbered) (c.id.ensures ∙ ap (λ d. d.id) c.deref-4.ensures) (found_at c) (joined c)
    c.in-Ok.ensures.ok
    ∙ ap (λ (k : IndexState). after k.docs (added (arc_value c.args.doc))) c.self.view_is

pub invariant_of-self : goal.invariant_of-self
invariant_of-self c =
    IsIndex-more (arc_value c.self.inside.current).seen c.self.inside.gone.items c.self.inside.pending c.self.inside.keys.items c.note_field.new.fields.items c.note_field.ensures.stay c.self.invariant

pub numbers_with_id-requires : goal.numbers_with_id-requires
numbers_with_id-requires c =
    let v = (arc_value c.self.inside.current).seen in
    let ids : HaveIds c.note_field.new.fields.items (docs v) = HaveIds-more c.self.inside.keys.items c.note_field.new.fields.items (docs v) c.note_field.ensures.stay c.self.invariant.ids in
    subst (λ (p : List ℕ × Indexed). HaveIds p.0 (docs p.1.seen)) (λ t. (sym c.deref-3.ensures.value t, sym c.deref-2.ensures t)) ids

pub invariant_of-self-in_err-found : goal.invariant_of-self-in_err-found
invariant_of-self-in_err-found c =
    IsIndex-more (arc_value c.self.inside.current).seen c.self.inside.gone.items c.self.inside.pending c.self.inside.keys.items c.note_field.new.fields.items c.note_field.ensures.stay c.self.invariant

pub invariant_of-self-in_err-extend_from_slice : goal.invariant_of-self-in_err-extend_from_slice
invariant_of-self-in_err-extend_from_slice c =
    let same : c.extend_from_slice.new.self.items ≡ c.self.inside.gone.items = search rules in
    subst (λ (gone : List ℕ). IsIndex (arc_value c.self.inside.current).seen gone c.self.inside.pending c.note_field.new.fields.items) (sym same)
    (IsIndex-more (arc_value c.self.inside.current).seen c.self.inside.gone.items c.self.inside.pending c.self.inside.keys.items c.note_field.new.fields.items c.note_field.ensures.stay c.self.invariant)
