use Rattle.std.proofs.Common.{◌≡◌, [], append-nil, sym, ap, subst, rules, ◌∙◌}
use Rattle.view_cells.specs.Lists.{entries_of}
use Rattle.registry_core.specs.Finishes.{finishes_of}
use Rattle.view_cells.specs.Seats.{IsIdle, own_list}
use Rattle.registry_core.proofs.update.executed.Goals as goal

pub put_back-requires-clause-own : goal.put_back-requires-clause-own
put_back-requires-clause-own g c =
    let t = c.take-held.ensures in
    let same = c.change-result.ensures.same.finishes ∙ ap (λ l. l.finishes.items) c.value.ensures.value in
    let had = (λ i. finishes_of (t.taken.seat.number i) (same i)) ∙ t.fits.own ∙ (λ i. entries_of (sym t.taken.seat.number i) (sym t.taken.lists i)) in
    ([], had ∙ sym (append-nil _))

pub put_back-requires-clause-others : goal.put_back-requires-clause-others
put_back-requires-clause-others g c =
    let t = c.take-held.ensures in
    let same = c.change-result.ensures.same.finishes ∙ ap (λ l. l.finishes.items) (c.value.ensures.value ∙ sym t.fresh) in
    λ n _ _. ap (finishes_of n) same

pub returns-clause-back : goal.returns-clause-back
returns-clause-back g c =
    let t = c.take-held.ensures in
    let same = c.change-result.ensures.same.finishes ∙ ap (λ l. l.finishes.items) c.value.ensures.value in
    let last : c.lock-1.given.0 ≡ c.put_back.new.self.0 = c.lock-1.given.1 (sym t.same_reference) in
    record {
      seat = search rules;
      idle = subst IsIdle (sym last) c.put_back.ensures.idle;
      own = ap own_list last ∙ c.put_back.ensures.own ∙ (λ i. finishes_of (t.taken.seat.number i) (same i)) ∙ t.fits.own;
    }
