use Rattle.std.proofs.Common.{◌≡◌, ◌∙◌, Some, sym, ap, refl, arith}
use Rattle.searcher_table.specs.Registrars.{plan_of}
use Rattle.searcher_table.proofs.Closing.{gives_up, closer_first, has_closed, each_once, doors_left, back_after}
use Rattle.searcher_table.proofs.registrar.Registrar.close.Goals as goal

pub load-requires : goal.load-requires
load-requires g c =
    let t = c.take_all.new.self in
    let h = c.take_all.ensures in
    let table = c.deref.result.now.shared in
    let same : t.place.table_id ≡ table.table_id = t.at_table ∙ sym (ap (λ z. z.shared.table_id) c.deref.ensures) in
    let words : table.table_id.words ≡ 1168 = ap (λ z. z.words) (sym same) ∙ t.sized in
    let key : plan_of t ≡ table.key = sym (ap (λ z. z.shared.key) c.deref.ensures) in (
      same,
      omega arith,
      gives_up g.D.Shown.setting g.D.Shown.docs g.D.Shown.list table.key table.table_id.slots t.place.id t.place.me 16 refl t.role t.idle
          (back_after c.args.self t c.args.passes.items h c.requires.all table.key key) (t.told ∙ ap (λ p. Some p) key),
    )

pub empty_all-rows-requires-clause-closer : goal.empty_all-rows-requires-clause-closer
empty_all-rows-requires-clause-closer g c =
    let t = c.take_all.new.self in
    let h = c.take_all.ensures in
    (closer_first (plan_of t) t.place.me c.load.new.seat.me record { plan = t.told; role = t.role; task = t.idle } (back_after c.args.self t c.args.passes.items h c.requires.all (plan_of t) refl) (c.load.ensures.2 (plan_of t) t.told)).closer

pub returns-clause-ended : goal.returns-clause-ended
returns-clause-ended g c =
    let t = c.take_all.new.self in
    let x = c.load.ensures.2 (plan_of t) t.told in
    has_closed c.args.self t c.args.passes.items c.take_all.ensures _ c.load.new.seat.me refl (c.empty_all-rows.ensures.table ∙ c.load.ensures.0) x
    (c.empty_all-rows.ensures.seen ∙ ap (λ m. m.0.seen) x.turned.after) (c.empty_all-rows.ensures.back ∙ ap (λ m. m.0.back) x.turned.after)

pub returns-clause-freed : goal.returns-clause-freed
returns-clause-freed g c =
    let t = c.take_all.new.self in
    let x = c.load.ensures.2 (plan_of t) t.told in
    each_once c.args.self t c.args.passes.items c.take_all.ensures _ c.load.new.seat.me refl (c.empty_all-rows.ensures.table ∙ c.load.ensures.0) x
    (c.empty_all-rows.ensures.seen ∙ ap (λ m. m.0.seen) x.turned.after) (c.empty_all-rows.ensures.back ∙ ap (λ m. m.0.back) x.turned.after) c.requires.warming

pub returns-clause-doors : goal.returns-clause-doors
returns-clause-doors g c =
    let t = c.take_all.new.self in
    let x = c.load.ensures.2 (plan_of t) t.told in
    doors_left c.args.self t c.args.passes.items c.take_all.ensures _ c.load.new.seat.me refl (c.empty_all-rows.ensures.table ∙ c.load.ensures.0) x
    (c.empty_all-rows.ensures.seen ∙ ap (λ m. m.0.seen) x.turned.after) (c.empty_all-rows.ensures.back ∙ ap (λ m. m.0.back) x.turned.after)
    g.D.Shown.setting g.D.Shown.docs g.D.Shown.list c.empty_all-rows.result.items c.empty_all-rows.ensures.count c.empty_all-rows.ensures.rows (sym c.empty_all-rows.ensures.seen)
