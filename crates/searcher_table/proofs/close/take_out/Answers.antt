use Rattle.std.proofs.Common.{◌≡◌, ◌+◌, ◌*◌, ◌-◌, ◌∙◌, sym, ap, refl, Some, arith}
use Rattle.searcher_table.specs.Words.{limits}
use Rattle.searcher_table.proofs.Filling.{has_out}
use Rattle.searcher_table.proofs.Closing.{takes_out, taken_door}
use Rattle.searcher_table.proofs.close.take_out.Goals as goal

pub store-requires : goal.store-requires
store-requires g c =
    let place = c.args.place.now in
    let table = c.deref.result.now.shared in
    let r = c.requires in
    let low = r.caller.0 in
    let high = r.caller.1 in
    let few = r.callers in
    let more = r.closer.few in
    let below = r.slot in
    let same : place.table_id ≡ table.table_id = r.table ∙ sym (ap (λ t. t.shared.table_id) c.deref.ensures) in
    let words : table.table_id.words ≡ 1168 = ap (λ z. z.words) (sym same) ∙ r.sized in
    let key = ap (λ t. t.shared.key) c.deref.ensures in
    let slots = ap (λ p. (limits p).slots) key in
    let callers = ap (λ p. p.callers) key in (
      same,
      omega arith,
      takes_out g.D.Shown.setting g.D.Shown.docs g.D.Shown.list table.key table.table_id.slots place.id place.me 16 r.closer.count (64 * c.args.slot + c.args.caller - 1) refl r.closer.opener.role r.closer.opener.task
          (λ d some most. r.closer.back d some (omega arith)) (r.closer.opener.plan ∙ ap (λ p. Some p) (sym key)) (omega arith) (omega arith) (omega arith),
    )

pub exchange-requires : goal.exchange-requires
exchange-requires g c =
    let place = c.args.place.now in
    let r = c.requires in
    let table = c.deref-2.result.now.shared in
    let mid = c.store.new.seat.me in
    let x = c.store.ensures.2 _ r.closer.opener.plan in
    let same : place.table_id ≡ table.table_id = r.table ∙ sym (ap (λ t. t.shared.table_id) c.deref-2.ensures) in (
      c.store.ensures.0 ∙ same,
      (x.old, has_out mid.1 place.me.1 (64 * c.args.slot + c.args.caller - 1) (64 * c.args.slot + c.args.caller - 1) x.old x.out refl),
    )

pub returns-clause-door : goal.returns-clause-door
returns-clause-door g c =
    let place = c.args.place.now in
    let r = c.requires in
    let high = r.caller.1 in
    let few = r.callers in
    let mid = c.store.new.seat.me in
    let x = c.store.ensures.2 _ r.closer.opener.plan in
    taken_door g.D.Shown.setting g.D.Shown.docs g.D.Shown.list _ (64 * c.args.slot + c.args.caller - 1) c.args.slot c.args.caller place.me mid c.exchange.new.seat.me c.exchange.result c.found.result r.closer r.caller.0 (omega arith) refl x
    c.exchange.ensures.2 (ap (λ m. m.0) c.exchange.ensures.3) c.found.ensures
