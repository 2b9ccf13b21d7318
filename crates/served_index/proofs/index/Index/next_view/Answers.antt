use Rattle.std.proofs.Common.{◌+◌, ◌≤◌, length, map, ap, sym, subst, ◌∙◌, arith}
use Rattle.std.specs.FinSet.{from_list}
use Rattle.std.specs.Arc.{arc_value}
use Rattle.std.proofs.lemmas.List.{length-map}
use Rattle.segment_postings.specs.Numbered.{docs, extended}
use Rattle.segment_postings.specs.Views.{Indexed}
use Rattle.served_index.specs.IndexState.{IndexState}
use Rattle.served_index.proofs.Indexing.{docs-opened, size-opened}
use Rattle.served_index.proofs.index.Index.next_view.Goals as goal

pub extend-requires : goal.extend-requires
extend-requires c =
    let same = ap length c.in_ok-added.ensures.docs in
    let view = ap (λ (w : Indexed). w.seen.size) c.deref-2.ensures in
    omega (arith, view, c.self.invariant.most, same, length-map c.in_ok-added.added.items arc_value, c.in_ok-added.ensures.few)

pub returns-clause-docs : goal.returns-clause-docs
returns-clause-docs c =
    let v = (arc_value c.self.inside.current).seen in
    ap (λ (w : Indexed). docs w.seen) c.in_ok-new.ensures.ok
    ∙ docs-opened v c.in_ok-extended.extended.seen c.in_ok-next.next.seen c.self.inside.gone.items c.in_ok-gone.gone (map arc_value c.in_ok-added.added.items) c.self.inside.pending.docs
    (c.in_ok-gone.ensures ∙ ap from_list c.deref.ensures.value) c.in_ok-added.ensures.docs (c.in_ok-extended.ensures.seen ∙ ap (λ (w : Indexed). extended w.seen c.in_ok-gone.gone (map arc_value c.in_ok-added.added.items)) c.deref-2.ensures) c.in_ok-next.ensures.docs
    ∙ ap (λ (k : IndexState). k.docs) c.self.view_is

pub returns-clause-size : goal.returns-clause-size
returns-clause-size c =
    let v = (arc_value c.self.inside.current).seen in
    let same = ap length c.in_ok-added.ensures.docs in
    let most = c.in_ok-added.ensures.few in
    let few : length (map arc_value c.in_ok-added.added.items) ≤ c.self.inside.pending.slots = omega (arith, same, most) in
    let low : c.in_ok-next.next.seen.size ≤ v.size + c.self.inside.pending.slots =
    size-opened v c.in_ok-extended.extended.seen c.in_ok-next.next.seen c.in_ok-gone.gone (map arc_value c.in_ok-added.added.items) c.self.inside.pending.slots
    (c.in_ok-extended.ensures.seen ∙ ap (λ (w : Indexed). extended w.seen c.in_ok-gone.gone (map arc_value c.in_ok-added.added.items)) c.deref-2.ensures) c.in_ok-next.ensures.size few in
    subst (λ (k : IndexState). (arc_value c.in_ok-new.field-0).seen.size ≤ k.numbers) c.self.view_is
    (subst (λ (w : Indexed). w.seen.size ≤ v.size + c.self.inside.pending.slots) (sym c.in_ok-new.ensures.ok) low)
