use Rattle.std.proofs.Common.{◌≡◌, ◌++◌, ◌∷◌, [], sym, ap, subst, ◌∙◌}
use Rattle.std.specs.Prelude.{IsSome}
use Rattle.view_cells.specs.Lists.{entries_of}
use Rattle.view_cells.specs.Seats.{view_of, own_list}
use Rattle.view_cells.specs.Helds.{holder}
use Rattle.cache_machine.specs.Machine.{owned_by}
use Rattle.cache_traces.specs.declared.act.Act.TheVariants.{GaveUp}
use Rattle.cache_traces.specs.Acts.{calls_of, owned_after}
use Rattle.cache_traces.specs.Traces.{rules as of}
use Rattle.shared_cells.specs.Fitting.{CellFits}
use Rattle.shared_cells.proofs.Seats.{owner_told, some_there, own_then, other_then}
use Rattle.shared_cells.proofs.calls.give_up.Goals as goal

pub given_up-requires : goal.given_up-requires
given_up-requires g c =
    let r = of g.V.Key.PartialEq.eq g.V.Value.weight g.V.Value.serves g.V.Counted.numbers g.V.Counted.keeps in
    let t = c.take-held.ensures in
    let cell = c.value.result.now in
    let s = c.args.seat.now in
    let w = view_of s in
    let fit : CellFits r (g.V.Kept.fits w) (g.V.Kept.size w) (g.V.Kept.greatest w) (g.V.Kept.seats w) cell.cells = subst (λ l. CellFits r (g.V.Kept.fits w) (g.V.Kept.size w) (g.V.Kept.greatest w) (g.V.Kept.seats w) l.cells) (sym c.value.ensures.value) t.fits.view in
    let had : calls_of s.number cell.cells.steps ≡ own_list s = ap (λ l. calls_of s.number l.cells.steps) c.value.ensures.value ∙ t.fits.own in
    let owned : owned_by cell.cells.cache c.number-number.result ≡ owned_after (own_list s) = owner_told r cell.cells fit.traced c.number-number.result ∙ ap owned_after (ap (λ n. calls_of n cell.cells.steps) c.number-number.ensures ∙ had) in
    record { owns = subst IsSome (sym owned) c.requires.owns }

pub put_back-requires-clause-others : goal.put_back-requires-clause-others
put_back-requires-clause-others g c = λ m few other.
    let r = of g.V.Key.PartialEq.eq g.V.Value.weight g.V.Value.serves g.V.Counted.numbers g.V.Counted.keeps in
    let t = c.take-held.ensures in
    let cell = c.value.result.now in
    let s = c.args.seat.now in
    let w = view_of s in
    let fit : CellFits r (g.V.Kept.fits w) (g.V.Kept.size w) (g.V.Kept.greatest w) (g.V.Kept.seats w) cell.cells = subst (λ l. CellFits r (g.V.Kept.fits w) (g.V.Kept.size w) (g.V.Kept.greatest w) (g.V.Kept.seats w) l.cells) (sym c.value.ensures.value) t.fits.view in
    let had : calls_of s.number cell.cells.steps ≡ own_list s = ap (λ l. calls_of s.number l.cells.steps) c.value.ensures.value ∙ t.fits.own in
    let owned : owned_by cell.cells.cache c.number-number.result ≡ owned_after (own_list s) = owner_told r cell.cells fit.traced c.number-number.result ∙ ap owned_after (ap (λ n. calls_of n cell.cells.steps) c.number-number.ensures ∙ had) in
    let key = some_there (owned_by cell.cells.cache c.number-number.result) (subst IsSome (sym owned) c.requires.owns) in
    ap (calls_of m) (c.given_up.ensures.steps key.0 key.1) ∙ other_then cell.cells.steps c.number-number.result m (GaveUp key.0) (λ is. other (is ∙ c.number-number.ensures ∙ sym t.taken.seat.number))
    ∙ ap (λ l. calls_of m l.cells.steps) (c.value.ensures.value ∙ sym t.fresh)

pub put_back-requires-clause-own : goal.put_back-requires-clause-own
put_back-requires-clause-own g c =
    let r = of g.V.Key.PartialEq.eq g.V.Value.weight g.V.Value.serves g.V.Counted.numbers g.V.Counted.keeps in
    let t = c.take-held.ensures in
    let cell = c.value.result.now in
    let s = c.args.seat.now in
    let w = view_of s in
    let fit : CellFits r (g.V.Kept.fits w) (g.V.Kept.size w) (g.V.Kept.greatest w) (g.V.Kept.seats w) cell.cells = subst (λ l. CellFits r (g.V.Kept.fits w) (g.V.Kept.size w) (g.V.Kept.greatest w) (g.V.Kept.seats w) l.cells) (sym c.value.ensures.value) t.fits.view in
    let had : calls_of s.number cell.cells.steps ≡ own_list s = ap (λ l. calls_of s.number l.cells.steps) c.value.ensures.value ∙ t.fits.own in
    let owned : owned_by cell.cells.cache c.number-number.result ≡ owned_after (own_list s) = owner_told r cell.cells fit.traced c.number-number.result ∙ ap owned_after (ap (λ n. calls_of n cell.cells.steps) c.number-number.ensures ∙ had) in
    let h = holder c.take-held.result in
    let n = c.number-number.result in
    let same : n ≡ h.number = c.number-number.ensures ∙ sym t.taken.seat.number in
    let key = some_there (owned_by cell.cells.cache n) (subst IsSome (sym owned) c.requires.owns) in
    let lists : calls_of n cell.cells.steps ≡ own_list h = ap (λ m. calls_of m cell.cells.steps) c.number-number.ensures ∙ had ∙ (λ i. entries_of (sym t.taken.seat.number i) (sym t.taken.lists i)) in
    (GaveUp key.0 ∷ [], ap (λ m. calls_of m c.given_up.new.cell.cells.steps) (sym same) ∙ ap (calls_of n) (c.given_up.ensures.steps key.0 key.1) ∙ own_then cell.cells.steps n (GaveUp key.0) ∙ ap (λ l. l ++ GaveUp key.0 ∷ []) lists)

pub returns-clause-list : goal.returns-clause-list
returns-clause-list g c k is =
    let r = of g.V.Key.PartialEq.eq g.V.Value.weight g.V.Value.serves g.V.Counted.numbers g.V.Counted.keeps in
    let t = c.take-held.ensures in
    let cell = c.value.result.now in
    let s = c.args.seat.now in
    let w = view_of s in
    let fit : CellFits r (g.V.Kept.fits w) (g.V.Kept.size w) (g.V.Kept.greatest w) (g.V.Kept.seats w) cell.cells = subst (λ l. CellFits r (g.V.Kept.fits w) (g.V.Kept.size w) (g.V.Kept.greatest w) (g.V.Kept.seats w) l.cells) (sym c.value.ensures.value) t.fits.view in
    let had : calls_of s.number cell.cells.steps ≡ own_list s = ap (λ l. calls_of s.number l.cells.steps) c.value.ensures.value ∙ t.fits.own in
    let owned : owned_by cell.cells.cache c.number-number.result ≡ owned_after (own_list s) = owner_told r cell.cells fit.traced c.number-number.result ∙ ap owned_after (ap (λ n. calls_of n cell.cells.steps) c.number-number.ensures ∙ had) in
    let n = c.number-number.result in
    let last : c.seat-1.given.0 ≡ c.put_back.new.self.0 = c.seat-1.given.1 (sym t.same_reference) in
    ap own_list last ∙ c.put_back.ensures.own ∙ ap (λ m. calls_of m c.given_up.new.cell.cells.steps) (t.taken.seat.number ∙ sym c.number-number.ensures)
    ∙ ap (calls_of n) (c.given_up.ensures.steps k (owned ∙ is)) ∙ own_then cell.cells.steps n (GaveUp k) ∙ ap (λ l. l ++ GaveUp k ∷ []) (ap (λ m. calls_of m cell.cells.steps) c.number-number.ensures ∙ had)
