use Rattle.std.proofs.Common.{◌≡◌, ◌++◌, sym, ap, ◌∙◌}
use Rattle.view_cells.specs.Lists.{entries_of}
use Rattle.view_cells.specs.Seats.{own_list}
use Rattle.view_cells.specs.Helds.{holder}
use Rattle.cache_traces.specs.declared.act.Act.TheVariants.{Listed}
use Rattle.cache_traces.specs.Acts.{calls_of}
use Rattle.shared_cells.proofs.Seats.{own_told, others_told, list_told}
use Rattle.shared_cells.proofs.calls.recent.Goals as goal

pub put_back-requires-clause-others : goal.put_back-requires-clause-others
put_back-requires-clause-others g c = λ m few other.
    let t = c.take-held.ensures in
    let cell = c.value.result.now in
    let s = c.args.seat.now in
    let e = c.listed-result.ensures in
    others_told cell.cells.steps c.listed-result.new.cell.cells.steps c.number-number.result (λ ks. Listed c.args.most ks.items) c.listed-result.result e.steps e.steps_stay m (λ is. other (is ∙ c.number-number.ensures ∙ sym t.taken.seat.number))
    ∙ ap (λ l. calls_of m l.cells.steps) (c.value.ensures.value ∙ sym t.fresh)

pub put_back-requires-clause-own : goal.put_back-requires-clause-own
put_back-requires-clause-own g c =
    let t = c.take-held.ensures in
    let cell = c.value.result.now in
    let s = c.args.seat.now in
    let e = c.listed-result.ensures in
    let h = holder c.take-held.result in
    let number : h.number ≡ s.number = t.taken.seat.number in
    let had : calls_of h.number cell.cells.steps ≡ own_list h =
    ap (λ n. calls_of n cell.cells.steps) number ∙ ap (λ l. calls_of s.number l.cells.steps) c.value.ensures.value ∙ t.fits.own ∙ (λ i. entries_of (sym number i) (sym t.taken.lists i)) in
    let same : c.number-number.result ≡ h.number = c.number-number.ensures ∙ sym number in
    let more = own_told cell.cells.steps c.listed-result.new.cell.cells.steps c.number-number.result (λ ks. Listed c.args.most ks.items) c.listed-result.result e.steps e.steps_stay in
    (more.0, ap (λ n. calls_of n c.listed-result.new.cell.cells.steps) (sym same) ∙ more.1 ∙ ap (λ l. l ++ more.0) (ap (λ n. calls_of n cell.cells.steps) same ∙ had))

pub returns-clause-list : goal.returns-clause-list
returns-clause-list g c =
    let t = c.take-held.ensures in
    let cell = c.value.result.now in
    let s = c.args.seat.now in
    let e = c.listed-result.ensures in
    let n = c.number-number.result in
    let had : calls_of n cell.cells.steps ≡ own_list s = ap (λ m. calls_of m cell.cells.steps) c.number-number.ensures ∙ ap (λ l. calls_of s.number l.cells.steps) c.value.ensures.value ∙ t.fits.own in
    let last : c.seat-1.given.0 ≡ c.put_back.new.self.0 = c.seat-1.given.1 (sym t.same_reference) in
    let now = ap own_list last ∙ c.put_back.ensures.own ∙ ap (λ k. calls_of k c.listed-result.new.cell.cells.steps) (t.taken.seat.number ∙ sym c.number-number.ensures) in
    list_told cell.cells.steps c.listed-result.new.cell.cells.steps n (λ ks. Listed c.args.most ks.items) (own_list s) (own_list c.seat-1.given.0) had now c.listed-result.result e.steps
