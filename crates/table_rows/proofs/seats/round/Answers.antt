use Rattle.std.proofs.Common.{◌≡◌, ℕ, ◌<◌, ◌∙◌, List, sym, ap, subst}
use Rattle.view_cells.specs.Lists.{entries_of}
use Rattle.view_cells.specs.Seats.{view_of, own_list}
use Rattle.view_cells.specs.Helds.{holder}
use Rattle.table_rows.specs.SeatTrials.{IsBelow, done_by}
use Rattle.table_rows.proofs.SeatTrials.{added_below, added_other, listed, goes_on}
use Rattle.table_rows.proofs.seats.round.Goals as goal

pub put_back-requires-clause-fits : goal.put_back-requires-clause-fits
put_back-requires-clause-fits g c =
    let t = c.take-held.ensures in
    let cs = c.value.result.now.calls.items in
    let most : ℕ = view_of (holder c.take-held.result) in
    let all : IsBelow most cs = subst (λ (m : ℕ). IsBelow m cs) (sym t.taken.seat.view) (subst (λ l. IsBelow (view_of c.args.seat.now) l.calls.items) (sym c.value.ensures.value) t.fits.view) in
    let less : c.args.call < most = subst (λ (m : ℕ). c.args.call < m) (sym t.taken.seat.view) c.requires.below in
    added_below c.add-added.result cs c.number-number.result c.args.call c.add-added.new.self.calls.items most c.add-added.ensures all less

pub put_back-requires-clause-others : goal.put_back-requires-clause-others
put_back-requires-clause-others g c = λ m few other.
    let t = c.take-held.ensures in
    let cs = c.value.result.now.calls.items in
    added_other c.add-added.result cs c.number-number.result c.args.call c.add-added.new.self.calls.items m c.add-added.ensures (λ e. other (e ∙ c.number-number.ensures ∙ sym t.taken.seat.number))
    ∙ ap (λ l. done_by m l.calls.items) (c.value.ensures.value ∙ sym t.fresh)

pub put_back-requires-clause-own : goal.put_back-requires-clause-own
put_back-requires-clause-own g c =
    let t = c.take-held.ensures in
    let cs : List (ℕ × ℕ) = c.value.result.now.calls.items in
    let new : List (ℕ × ℕ) = c.add-added.new.self.calls.items in
    let h = holder c.take-held.result in
    let s = c.args.seat.now in
    let number : h.number ≡ s.number = t.taken.seat.number in
    let had : done_by h.number cs ≡ own_list h =
    ap (λ k. done_by k cs) number ∙ ap (λ l. done_by s.number l.calls.items) c.value.ensures.value ∙ t.fits.own ∙ (λ i. entries_of (sym number i) (sym t.taken.lists i)) in
    goes_on c.add-added.result (own_list h) (done_by h.number new) c.args.call
    (listed c.add-added.result cs c.number-number.result h.number c.args.call new (own_list h) c.add-added.ensures (c.number-number.ensures ∙ sym number) had)

pub returns-clause-list : goal.returns-clause-list
returns-clause-list g c =
    let t = c.take-held.ensures in
    let cs : List (ℕ × ℕ) = c.value.result.now.calls.items in
    let new : List (ℕ × ℕ) = c.add-added.new.self.calls.items in
    let h = holder c.take-held.result in
    let s = c.args.seat.now in
    let number : h.number ≡ s.number = t.taken.seat.number in
    let had : done_by s.number cs ≡ own_list s = ap (λ l. done_by s.number l.calls.items) c.value.ensures.value ∙ t.fits.own in
    let last : c.seat-1.given.0 ≡ c.put_back.new.self.0 = c.seat-1.given.1 (sym t.same_reference) in
    ap own_list last ∙ c.put_back.ensures.own ∙ ap (λ k. done_by k new) number
    ∙ listed c.add-added.result cs c.number-number.result s.number c.args.call new (own_list s) c.add-added.ensures c.number-number.ensures had
