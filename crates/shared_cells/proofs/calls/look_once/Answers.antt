use Rattle.std.proofs.Common.{◌≡◌, ◌++◌, sym, ap, subst, ◌∙◌}
use Rattle.view_cells.specs.Lists.{entries_of}
use Rattle.view_cells.specs.Seats.{view_of, own_list}
use Rattle.view_cells.specs.Helds.{holder}
use Rattle.cache_traces.specs.Acts.{calls_of, owned_after}
use Rattle.cache_traces.specs.Traces.{rules as of}
use Rattle.shared_cells.specs.Fitting.{CellFits}
use Rattle.shared_cells.proofs.Seats.{owner_told, fits_looked, own_looked, others_looked, list_looked, hit_looked}
use Rattle.shared_cells.proofs.calls.look_once.Goals as goal

pub looked-result-requires-clause-idle : goal.looked-result-requires-clause-idle
looked-result-requires-clause-idle g c =
    let r = of g.V.Key.PartialEq.eq g.V.Value.weight g.V.Value.serves g.V.Counted.numbers g.V.Counted.keeps in
    let t = c.take-held.ensures in
    let cell = c.value.result.now in
    let s = c.args.seat.now in
    let fit : CellFits r (g.V.Kept.fits (view_of s)) (g.V.Kept.size (view_of s)) (g.V.Kept.greatest (view_of s)) (g.V.Kept.seats (view_of s)) cell.cells = subst (λ l. CellFits r (g.V.Kept.fits (view_of s)) (g.V.Kept.size (view_of s)) (g.V.Kept.greatest (view_of s)) (g.V.Kept.seats (view_of s)) l.cells) (sym c.value.ensures.value) t.fits.view in
    let had : calls_of s.number cell.cells.steps ≡ own_list s = ap (λ l. calls_of s.number l.cells.steps) c.value.ensures.value ∙ t.fits.own in
    owner_told r cell.cells fit.traced c.number-number.result ∙ ap owned_after (ap (λ n. calls_of n cell.cells.steps) c.number-number.ensures ∙ had) ∙ c.requires.owns

pub put_back-requires-clause-fits : goal.put_back-requires-clause-fits
put_back-requires-clause-fits g c =
    let r = of g.V.Key.PartialEq.eq g.V.Value.weight g.V.Value.serves g.V.Counted.numbers g.V.Counted.keeps in
    let t = c.take-held.ensures in
    let cell = c.value.result.now in
    let w = view_of (holder c.take-held.result) in
    let fit : CellFits r (g.V.Kept.fits w) (g.V.Kept.size w) (g.V.Kept.greatest w) (g.V.Kept.seats w) cell.cells =
    subst (λ v. CellFits r (g.V.Kept.fits v) (g.V.Kept.size v) (g.V.Kept.greatest v) (g.V.Kept.seats v) cell.cells) (sym t.taken.seat.view)
    (subst (λ l. CellFits r (g.V.Kept.fits (view_of c.args.seat.now)) (g.V.Kept.size (view_of c.args.seat.now)) (g.V.Kept.greatest (view_of c.args.seat.now)) (g.V.Kept.seats (view_of c.args.seat.now)) l.cells) (sym c.value.ensures.value) t.fits.view) in
    let e = c.looked-result.ensures in
    fits_looked r (g.V.Kept.fits w) (g.V.Kept.size w) (g.V.Kept.greatest w) (g.V.Kept.seats w) cell.cells c.looked-result.new.cell.cells fit e.traced c.args.key.now c.args.need c.number-number.result c.looked-result.result e.after e.cache_stays

pub put_back-requires-clause-others : goal.put_back-requires-clause-others
put_back-requires-clause-others g c = λ m few other.
    let t = c.take-held.ensures in
    let cell = c.value.result.now in
    let e = c.looked-result.ensures in
    others_looked cell.cells.steps c.looked-result.new.cell.cells.steps c.number-number.result c.args.key.now c.args.need c.args.again c.looked-result.result e.steps e.steps_stay m (λ is. other (is ∙ c.number-number.ensures ∙ sym t.taken.seat.number))
    ∙ ap (λ l. calls_of m l.cells.steps) (c.value.ensures.value ∙ sym t.fresh)

pub put_back-requires-clause-own : goal.put_back-requires-clause-own
put_back-requires-clause-own g c =
    let t = c.take-held.ensures in
    let cell = c.value.result.now in
    let e = c.looked-result.ensures in
    let h = holder c.take-held.result in
    let s = c.args.seat.now in
    let number : h.number ≡ s.number = t.taken.seat.number in
    let had : calls_of h.number cell.cells.steps ≡ own_list h =
    ap (λ n. calls_of n cell.cells.steps) number ∙ ap (λ l. calls_of s.number l.cells.steps) c.value.ensures.value ∙ t.fits.own ∙ (λ i. entries_of (sym number i) (sym t.taken.lists i)) in
    let same : c.number-number.result ≡ h.number = c.number-number.ensures ∙ sym number in
    let more = own_looked cell.cells.steps c.looked-result.new.cell.cells.steps c.number-number.result c.args.key.now c.args.need c.args.again c.looked-result.result e.steps e.steps_stay in
    (more.0, ap (λ n. calls_of n c.looked-result.new.cell.cells.steps) (sym same) ∙ more.1 ∙ ap (λ l. l ++ more.0) (ap (λ n. calls_of n cell.cells.steps) same ∙ had))

pub returns-clause-list : goal.returns-clause-list
returns-clause-list g c =
    let t = c.take-held.ensures in
    let cell = c.value.result.now in
    let e = c.looked-result.ensures in
    let s = c.args.seat.now in
    let n = c.number-number.result in
    let had : calls_of n cell.cells.steps ≡ own_list s = ap (λ m. calls_of m cell.cells.steps) c.number-number.ensures ∙ ap (λ l. calls_of s.number l.cells.steps) c.value.ensures.value ∙ t.fits.own in
    let last : c.seat-1.given.0 ≡ c.put_back.new.self.0 = c.seat-1.given.1 (sym t.same_reference) in
    let now = ap own_list last ∙ c.put_back.ensures.own ∙ ap (λ k. calls_of k c.looked-result.new.cell.cells.steps) (t.taken.seat.number ∙ sym c.number-number.ensures) in
    list_looked cell.cells.steps c.looked-result.new.cell.cells.steps n c.args.key.now c.args.need c.args.again (own_list s) (own_list c.seat-1.given.0) had now c.looked-result.result e.steps

pub returns-clause-hit : goal.returns-clause-hit
returns-clause-hit g c =
    let r = of g.V.Key.PartialEq.eq g.V.Value.weight g.V.Value.serves g.V.Counted.numbers g.V.Counted.keeps in
    let t = c.take-held.ensures in
    let cell = c.value.result.now in
    let w = view_of c.args.seat.now in
    let fit : CellFits r (g.V.Kept.fits w) (g.V.Kept.size w) (g.V.Kept.greatest w) (g.V.Kept.seats w) cell.cells = subst (λ l. CellFits r (g.V.Kept.fits w) (g.V.Kept.size w) (g.V.Kept.greatest w) (g.V.Kept.seats w) l.cells) (sym c.value.ensures.value) t.fits.view in
    hit_looked r c.requires.same (g.V.Kept.fits w) (g.V.Kept.size w) (g.V.Kept.greatest w) (g.V.Kept.seats w) cell.cells fit c.args.key.now c.args.need c.looked-result.result c.looked-result.ensures.answer
