use Rattle.std.proofs.Common.{◌≡◌, ◌++◌, sym, ap, subst, ◌∙◌}
use Rattle.std.specs.Prelude.{nat_eq, is_some}
use Rattle.std.proofs.lemmas.Bool.{eqb-true}
use Rattle.view_cells.specs.Lists.{entries_of}
use Rattle.view_cells.specs.Seats.{view_of, own_list}
use Rattle.view_cells.specs.Helds.{holder}
use Rattle.cache_traces.specs.declared.store_act.StoreAct.TheVariants.{Looked}
use Rattle.cache_traces.specs.StoreTraces.{store_calls_of}
use Rattle.cache_traces.specs.Traces.{rules as of}
use Rattle.shared_cells.specs.Fitting.{StoreFits}
use Rattle.shared_cells.proofs.Stores.{fits_fetched, own_called, others_called, list_called, hit_fetched}
use Rattle.shared_cells.proofs.store_calls.fetch.Goals as goal

pub put_back-requires-clause-fits : goal.put_back-requires-clause-fits
put_back-requires-clause-fits g c =
    let r = of nat_eq g.V.Value.weight g.V.Value.serves g.V.Counted.numbers g.V.Counted.keeps in
    let t = c.take-held.ensures in
    let cell = c.value.result.now in
    let s = c.args.seat.now in
    let w = view_of s in
    let e = c.fetched-result.ensures in
    let fit : StoreFits r (g.V.Numbered.fits w) (g.V.Numbered.size w) (g.V.Numbered.greatest w) cell.cells = subst (λ l. StoreFits r (g.V.Numbered.fits w) (g.V.Numbered.size w) (g.V.Numbered.greatest w) l.cells) (sym c.value.ensures.value) t.fits.view in
    subst (λ x. StoreFits r (g.V.Numbered.fits x) (g.V.Numbered.size x) (g.V.Numbered.greatest x) c.fetched-result.new.cell.cells) (sym t.taken.seat.view)
    (fits_fetched r (g.V.Numbered.fits w) (g.V.Numbered.size w) (g.V.Numbered.greatest w) cell.cells c.fetched-result.new.cell.cells fit e.traced c.args.number c.fetched-result.result e.after e.kept_stays)

pub put_back-requires-clause-others : goal.put_back-requires-clause-others
put_back-requires-clause-others g c = λ m few other.
    let t = c.take-held.ensures in
    let cell = c.value.result.now in
    let s = c.args.seat.now in
    let e = c.fetched-result.ensures in
    others_called cell.cells.steps c.fetched-result.new.cell.cells.steps c.number-own.result (λ o. Looked c.args.number (is_some o)) c.fetched-result.result e.steps e.steps_stay m (λ is. other (is ∙ c.number-own.ensures ∙ sym t.taken.seat.number))
    ∙ ap (λ l. store_calls_of m l.cells.steps) (c.value.ensures.value ∙ sym t.fresh)

pub put_back-requires-clause-own : goal.put_back-requires-clause-own
put_back-requires-clause-own g c =
    let t = c.take-held.ensures in
    let cell = c.value.result.now in
    let s = c.args.seat.now in
    let e = c.fetched-result.ensures in
    let h = holder c.take-held.result in
    let number : h.number ≡ s.number = t.taken.seat.number in
    let had : store_calls_of h.number cell.cells.steps ≡ own_list h =
    ap (λ n. store_calls_of n cell.cells.steps) number ∙ ap (λ l. store_calls_of s.number l.cells.steps) c.value.ensures.value ∙ t.fits.own ∙ (λ i. entries_of (sym number i) (sym t.taken.lists i)) in
    let same : c.number-own.result ≡ h.number = c.number-own.ensures ∙ sym number in
    let more = own_called cell.cells.steps c.fetched-result.new.cell.cells.steps c.number-own.result (λ o. Looked c.args.number (is_some o)) c.fetched-result.result e.steps e.steps_stay in
    (more.0, ap (λ n. store_calls_of n c.fetched-result.new.cell.cells.steps) (sym same) ∙ more.1 ∙ ap (λ l. l ++ more.0) (ap (λ n. store_calls_of n cell.cells.steps) same ∙ had))

pub returns-clause-list : goal.returns-clause-list
returns-clause-list g c =
    let t = c.take-held.ensures in
    let cell = c.value.result.now in
    let s = c.args.seat.now in
    let e = c.fetched-result.ensures in
    let n = c.number-own.result in
    let had : store_calls_of n cell.cells.steps ≡ own_list s = ap (λ m. store_calls_of m cell.cells.steps) c.number-own.ensures ∙ ap (λ l. store_calls_of s.number l.cells.steps) c.value.ensures.value ∙ t.fits.own in
    let last : c.seat-1.given.0 ≡ c.put_back.new.self.0 = c.seat-1.given.1 (sym t.same_reference) in
    let now = ap own_list last ∙ c.put_back.ensures.own ∙ ap (λ k. store_calls_of k c.fetched-result.new.cell.cells.steps) (t.taken.seat.number ∙ sym c.number-own.ensures) in
    list_called cell.cells.steps c.fetched-result.new.cell.cells.steps n (λ o. Looked c.args.number (is_some o)) (own_list s) (own_list c.seat-1.given.0) had now c.fetched-result.result e.steps

pub returns-clause-hit : goal.returns-clause-hit
returns-clause-hit g c =
    let r = of nat_eq g.V.Value.weight g.V.Value.serves g.V.Counted.numbers g.V.Counted.keeps in
    let t = c.take-held.ensures in
    let cell = c.value.result.now in
    let s = c.args.seat.now in
    let w = view_of s in
    let fit : StoreFits r (g.V.Numbered.fits w) (g.V.Numbered.size w) (g.V.Numbered.greatest w) cell.cells = subst (λ l. StoreFits r (g.V.Numbered.fits w) (g.V.Numbered.size w) (g.V.Numbered.greatest w) l.cells) (sym c.value.ensures.value) t.fits.view in
    hit_fetched r (g.V.Numbered.fits w) (g.V.Numbered.size w) (g.V.Numbered.greatest w) (λ x y is. eqb-true x y is) c.args.number cell.cells.kept.entries fit.entries c.fetched-result.result c.fetched-result.ensures.answer
