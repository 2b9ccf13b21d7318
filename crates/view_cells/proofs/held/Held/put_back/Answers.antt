use Rattle.std.proofs.Common.{◌≡◌, ◌∙◌, sym, ap, refl, arith}
use Rattle.std.specs.Arc.{arc_value}
use Rattle.view_cells.proofs.LetGo.{puts_back, is_back}
use Rattle.view_cells.proofs.held.Held.put_back.Goals as goal

pub store-requires : goal.store-requires
store-requires g c =
    let seat = c.args.self.seat.now in
    let table = c.deref.result.now.shared in
    let e = c.exchange.ensures in
    let same : seat.place.table_id ≡ table.table_id = seat.at_table ∙ sym (ap (λ t. t.shared.table_id) c.deref.ensures) in
    let words : table.table_id.words ≡ 16 = ap (λ z. z.words) (sym same) ∙ seat.sized.0 in
    let slots : table.table_id.slots ≡ 1 = ap (λ z. z.slots) (sym same) ∙ seat.sized.1 in (
      e.0 ∙ same,
      omega arith,
      puts_back g.T.Fits.fits g.T.Fits.entries table.key table.table_id.slots c.exchange.new.seat.id seat.place.me c.exchange.new.seat.me seat.number (arc_value seat.table).shared.key
          c.args.self.taken.value c.args.self.value slots c.requires.held.taken c.requires.held.out e.3 seat.told seat.numbered c.requires.fits c.requires.others,
    )

pub invariant_of-seat : goal.invariant_of-seat
invariant_of-seat g c =
    let seat = c.args.self.seat.now in
    let e = c.store.ensures in
    let back = is_back g.T.Fits.fits g.T.Fits.entries c.deref.result.now.shared.key c.deref.result.now.shared.table_id.slots seat.place.me c.exchange.new.seat.me c.store.new.seat.me seat.number c.args.self.value
    c.requires.held.out c.exchange.ensures.3 seat.numbered seat.named e.2 in
    let id : c.store.new.seat.table_id ≡ seat.place.table_id = e.0 ∙ c.exchange.ensures.0 in
    record {
      at_table = id ∙ seat.at_table;
      sized = (ap (λ z. z.words) id ∙ seat.sized.0, ap (λ z. z.slots) id ∙ seat.sized.1);
      told = back.setting ∙ seat.told;
      few = seat.few;
      numbered = back.number;
      named = back.named;
    }

pub returns : goal.returns
returns g c =
    let seat = c.args.self.seat.now in
    let e = c.store.ensures in
    let back = is_back g.T.Fits.fits g.T.Fits.entries c.deref.result.now.shared.key c.deref.result.now.shared.table_id.slots seat.place.me c.exchange.new.seat.me c.store.new.seat.me seat.number c.args.self.value
    c.requires.held.out c.exchange.ensures.3 seat.numbered seat.named e.2 in
    record {
      seat = record { table = e.0 ∙ c.exchange.ensures.0; view = refl; count = refl; number = refl };
      lists = back.lists;
      own = back.own;
      idle = (back.idle, back.bare);
    }
