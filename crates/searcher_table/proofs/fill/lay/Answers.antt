use Rattle.std.proofs.Common.{◌≡◌, ◌+◌, ◌*◌, ◌∙◌, sym, ap, refl, arith}
use Rattle.searcher_table.specs.Doors.{cell_of}
use Rattle.searcher_table.proofs.Filling.{reaches, reached_by, met_is, lays, laid_by, has_out}
use Rattle.searcher_table.proofs.fill.lay.Goals as goal

pub load-requires : goal.load-requires
load-requires g c =
    let table = c.deref.result.now.shared in
    let r = c.requires in
    let same : c.args.place.now.table_id ≡ table.table_id = r.table ∙ sym (ap (λ t. t.shared.table_id) c.deref.ensures) in
    let words : table.table_id.words ≡ 1168 = ap (λ z. z.words) (sym same) ∙ r.sized in
    let n = r.next.few in
    let callers = ap (λ t. t.shared.key.callers) c.deref.ensures in (
      same,
      omega arith,
      reaches g.D.Shown.setting g.D.Shown.docs g.D.Shown.list table.key table.table_id.slots c.args.place.now.id c.args.place.now.me 16 c.args.slot c.args.count refl r.opener.role r.opener.task (omega arith),
    )

pub exchange-requires : goal.exchange-requires
exchange-requires g c =
    let table = c.deref-2.result.now.shared in
    let r = c.requires in
    let old = c.args.place.now.me in
    let mid = c.load.new.seat.me in
    let x = c.load.ensures.2 c.args.slot c.args.count r.opener.task in
    let same : c.args.place.now.table_id ≡ table.table_id = r.table ∙ sym (ap (λ t. t.shared.table_id) c.deref-2.ensures) in (
      c.load.ensures.0 ∙ same,
      (x.old, has_out mid.1 old.1 (cell_of c.args.slot (c.args.count + 1)) (64 * c.args.slot + c.args.count) x.old x.out (omega arith)),
    )

pub load-requires-2 : goal.load-requires-2
load-requires-2 g c =
    let table = c.deref-3.result.now.shared in
    let r = c.requires in
    let old = c.args.place.now.me in
    let mid = c.load.new.seat.me in
    let met = c.exchange.new.seat.me in
    let d = c.args.door in
    let x = c.load.ensures.2 c.args.slot c.args.count r.opener.task in
    let first = reached_by _ c.args.slot c.args.count old mid r.opener x in
    let is = met_is c.args.slot c.args.count (64 * c.args.slot + c.args.count) d old mid met r.bare x c.exchange.ensures.3 (omega arith) in
    let same : c.args.place.now.table_id ≡ table.table_id = r.table ∙ sym (ap (λ t. t.shared.table_id) c.deref-3.ensures) in
    let words : table.table_id.words ≡ 1168 = ap (λ z. z.words) (sym same) ∙ r.sized in
    let n = r.next.few in
    let callers = ap (λ t. t.shared.key.callers) c.deref-3.ensures in (
      c.exchange.ensures.0 ∙ c.load.ensures.0 ∙ same,
      omega arith,
      lays g.D.Shown.setting g.D.Shown.docs g.D.Shown.list table.key table.table_id.slots c.exchange.new.seat.id met 16 c.args.slot c.args.count d refl (ap (λ m. m.0.registrar) is ∙ first.opener.role) (ap (λ m. m.0.task) is ∙ first.opener.task) (omega arith)
          (ap (λ m. m.1) is) (r.next.setting_is ∙ ap (λ t. t.shared.key.setting.value) (sym c.deref-3.ensures)) r.next.unused (λ z. ap (λ m. m.0.filling) is ∙ ap (λ m. m.0.filling) x.turned.after ∙ r.next.same z),
    )

pub returns-clause-laid : goal.returns-clause-laid
returns-clause-laid g c =
    let r = c.requires in
    let old = c.args.place.now.me in
    let mid = c.load.new.seat.me in
    let met = c.exchange.new.seat.me in
    let d = c.args.door in
    let x = c.load.ensures.2 c.args.slot c.args.count r.opener.task in
    let first = reached_by _ c.args.slot c.args.count old mid r.opener x in
    let is = met_is c.args.slot c.args.count (64 * c.args.slot + c.args.count) d old mid met r.bare x c.exchange.ensures.3 (omega arith) in
    (laid_by g.D.Shown.docs _ c.args.slot c.args.count d old mid met c.load-2.new.seat.me r.opener x is (c.load-2.ensures.2 c.args.slot c.args.count d (ap (λ m. m.0.task) is ∙ first.opener.task) (ap (λ m. m.1) is))).0

pub returns-clause-bare : goal.returns-clause-bare
returns-clause-bare g c =
    let r = c.requires in
    let old = c.args.place.now.me in
    let mid = c.load.new.seat.me in
    let met = c.exchange.new.seat.me in
    let d = c.args.door in
    let x = c.load.ensures.2 c.args.slot c.args.count r.opener.task in
    let first = reached_by _ c.args.slot c.args.count old mid r.opener x in
    let is = met_is c.args.slot c.args.count (64 * c.args.slot + c.args.count) d old mid met r.bare x c.exchange.ensures.3 (omega arith) in
    (laid_by g.D.Shown.docs _ c.args.slot c.args.count d old mid met c.load-2.new.seat.me r.opener x is (c.load-2.ensures.2 c.args.slot c.args.count d (ap (λ m. m.0.task) is ∙ first.opener.task) (ap (λ m. m.1) is))).1
