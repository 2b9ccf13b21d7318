use Rattle.std.proofs.Common.{◌≡◌, List, [], ◌∷◌, ◌++◌, sym, ap, ◌∙◌}
use Rattle.view_cells.specs.Lists.{entries_of}
use Rattle.view_cells.specs.Seats.{own_list}
use Rattle.registry_core.specs.declared.ended.Finish.{Finish}
use Rattle.registry_core.specs.Finishes.{finishes_of}
use Rattle.registry_core.specs.Finishing.{finish_of}
use Rattle.registry_core.proofs.EndedBy.{own_more, others_stay}
use Rattle.registry_core.proofs.finish.under_lock.Goals as goal

pub put_back-requires-clause-others : goal.put_back-requires-clause-others
put_back-requires-clause-others g c =
    let t = c.take-held.ensures in
    λ n _ other. ap (finishes_of n) c.finish-result.ensures.one.finishes
    ∙ others_stay n c.number-seat.result c.value.result.now.finishes.items (finish_of c.args.fresh) (λ is. other (sym is ∙ c.number-seat.ensures ∙ sym t.taken.seat.number))
    ∙ ap (finishes_of n) (ap (λ l. l.finishes.items) (c.value.ensures.value ∙ sym t.fresh))

pub put_back-requires-clause-own : goal.put_back-requires-clause-own
put_back-requires-clause-own g c =
    let t = c.take-held.ensures in
    let same = ap (λ l. l.finishes.items) c.value.ensures.value in
    let had = (λ i. finishes_of (t.taken.seat.number i) (same i)) ∙ t.fits.own ∙ (λ i. entries_of (sym t.taken.seat.number i) (sym t.taken.lists i)) in
    let f = finish_of c.args.fresh in (
      f ∷ [],
      ap (finishes_of c.take-held.result.seat.now.number) c.finish-result.ensures.one.finishes
          ∙ own_more c.take-held.result.seat.now.number c.number-seat.result c.value.result.now.finishes.items f (c.number-seat.ensures ∙ sym t.taken.seat.number)
          ∙ ap (λ (l : List Finish). l ++ f ∷ []) had,
    )

pub returns-clause-own : goal.returns-clause-own
returns-clause-own g c =
    let t = c.take-held.ensures in
    let same = ap (λ l. l.finishes.items) c.value.ensures.value in
    let f = finish_of c.args.fresh in
    let last : c.lock-1.given.0 ≡ c.put_back.new.self.0 = c.lock-1.given.1 (sym t.same_reference) in
    ap own_list last ∙ c.put_back.ensures.own ∙ ap (finishes_of c.take-held.result.seat.now.number) c.finish-result.ensures.one.finishes
    ∙ own_more c.take-held.result.seat.now.number c.number-seat.result c.value.result.now.finishes.items f (c.number-seat.ensures ∙ sym t.taken.seat.number)
    ∙ ap (λ (l : List Finish). l ++ f ∷ []) ((λ i. finishes_of (t.taken.seat.number i) (same i)) ∙ t.fits.own)
