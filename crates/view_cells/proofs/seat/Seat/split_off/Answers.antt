use Rattle.std.proofs.Common.{◌≡◌, ℕ, ◌∙◌, false, Some, sym, ap, subst, refl, arith}
use Rattle.std.specs.Arc.{arc_value}
use Rattle.view_cells.specs.Lists.{names, first_number, others}
use Rattle.view_cells.proofs.SplitOff.{splits}
use Rattle.view_cells.proofs.Making.{cut}
use Rattle.view_cells.proofs.seat.Seat.split_off.Goals as goal

pub split_seat-place-requires : goal.split_seat-place-requires
split_seat-place-requires g c =
    let seat = c.args.self.now in
    let table = c.deref.result.now.shared in
    let same : seat.place.table_id ≡ table.table_id = seat.at_table ∙ sym (ap (λ t. t.shared.table_id) c.deref.ensures) in
    let words : table.table_id.words ≡ 16 = ap (λ z. z.words) (sym same) ∙ seat.sized.0 in
    let last = c.requires.last in
    let k = cut g.row.T-Entry.Denot seat.number c.args.next (arc_value seat.table).shared.key.seats seat.place.me.0.lists c.requires.next.0 c.requires.next.1 last.lists in (
      same,
      omega arith,
      splits g.T.Fits.fits g.T.Fits.entries table.key seat.place.id seat.place.me.0 last.idle.0 (subst (λ (n : ℕ). names n (others seat.place.me.0.lists) ≡ false) (sym k.first) k.apart),
    )

pub invariant_of-result : goal.invariant_of-result
invariant_of-result g c =
    let seat = c.args.self.now in
    let last = c.requires.last in
    let k = cut g.row.T-Entry.Denot seat.number c.args.next (arc_value seat.table).shared.key.seats seat.place.me.0.lists c.requires.next.0 c.requires.next.1 last.lists in
    let e = c.split_seat-place.ensures in
    let id : c.split_seat-place.result.table_id ≡ seat.place.table_id = e.3 in
    record {
      at_table = id ∙ seat.at_table ∙ ap (λ t. t.shared.table_id) (sym c.in-Ok.ensures);
      sized = (ap (λ z. z.words) id ∙ seat.sized.0, ap (λ z. z.slots) id ∙ seat.sized.1);
      told = ap (λ m. m.0.setting) e.4 ∙ seat.told ∙ ap (λ t. Some t.shared.key) (sym c.in-Ok.ensures);
      few = let f = seat.few in let s = ap (λ t. t.shared.key.seats) c.in-Ok.ensures in omega arith;
      numbered = sym k.second ∙ ap (λ m. first_number m.0.lists) (sym e.4);
      named = ap (λ m. names c.args.next m.0.lists) e.4 ∙ k.named;
    }

pub returns-clause-seat : goal.returns-clause-seat
returns-clause-seat g c =
    let seat = c.args.self.now in
    let last = c.requires.last in
    let k = cut g.row.T-Entry.Denot seat.number c.args.next (arc_value seat.table).shared.key.seats seat.place.me.0.lists c.requires.next.0 c.requires.next.1 last.lists in
    let e = c.split_seat-place.ensures in
    record {
      view = ap (λ t. t.shared.key.view.value) c.in-Ok.ensures;
      count = ap (λ t. t.shared.key.seats) c.in-Ok.ensures;
      number = refl;
      lists = ap (λ m. m.0.lists) e.4 ∙ k.rest;
      idle = (ap (λ m. m.0.taken) e.4, ap (λ m. m.1) e.4);
      tries = ap (λ m. m.0.tries) e.4;
    }
