use Rattle.std.proofs.Common.{◌≡◌, ◌+◌, ◌*◌, ◌/◌, ◌%◌, ◌∙◌, sym, ap, refl, arith}
use mir.Syntax.{w64}
use Rattle.std.specs.Prelude.{◌^◌}
use Rattle.std.specs.Int.{bit_not}
use Rattle.searcher_table.specs.declared.board.Task.TheVariants.{Found, Claimed, Filled}
use Rattle.searcher_table.proofs.Claiming.{takes, wipes}
use Rattle.searcher_table.proofs.Preparing.{begun_by, begun_on, for_none}
use Rattle.searcher_table.proofs.claim.claim.Goals as goal

pub fetch_and-requires : goal.fetch_and-requires
fetch_and-requires g c =
    let table = c.deref.result.now.shared in
    let r = c.requires in
    let f = c.find-slot.ensures in
    let low = f.below in
    let same : c.args.place.now.table_id ≡ table.table_id = r.table ∙ sym (ap (λ t. t.shared.table_id) c.deref.ensures) in
    let words : table.table_id.words ≡ 1168 = ap (λ z. z.words) (sym same) ∙ r.sized in (
      f.table ∙ same,
      omega arith,
      takes g.D.Shown.setting g.D.Shown.docs g.D.Shown.list table.key table.table_id.slots c.find-slot.new.place.id c.find-slot.new.place.me (24 + 8 * (c.find-slot.result / 64)) (bit_not w64 (1 * 2 ^ (c.find-slot.result % 64) % 2 ^ 64)) c.find-slot.result _ refl low f.begun.opener.role f.begun.opener.task (λ words long low n. refl),
    )

pub store-requires : goal.store-requires
store-requires g c =
    let table = c.deref-2.result.now.shared in
    let r = c.requires in
    let f = c.find-slot.ensures in
    let e = c.fetch_and.ensures in
    let low = f.below in
    let b = begun_by _ c.find-slot.new.place.me c.fetch_and.new.seat.me (Found c.find-slot.result) (Claimed c.find-slot.result) c.find-slot.new.place.me.0.fresh f.begun.opener (e.2 c.find-slot.result f.begun.opener.task) in
    let same : c.args.place.now.table_id ≡ table.table_id = r.table ∙ sym (ap (λ t. t.shared.table_id) c.deref-2.ensures) in
    let words : table.table_id.words ≡ 1168 = ap (λ z. z.words) (sym same) ∙ r.sized in (
      e.0 ∙ f.table ∙ same,
      omega arith,
      wipes g.D.Shown.setting g.D.Shown.docs g.D.Shown.list table.key table.table_id.slots c.fetch_and.new.seat.id c.fetch_and.new.seat.me (64 + 8 * c.find-slot.result) c.find-slot.result refl b.opener.role b.opener.task,
    )

pub returns-clause-id : goal.returns-clause-id
returns-clause-id g c =
    let f = c.find-slot.ensures in
    let e = c.fetch_and.ensures in
    let b = begun_by _ c.find-slot.new.place.me c.fetch_and.new.seat.me (Found c.find-slot.result) (Claimed c.find-slot.result) c.find-slot.new.place.me.0.fresh f.begun.opener (e.2 c.find-slot.result f.begun.opener.task) in
    let x = c.store.ensures.2 c.find-slot.result b.opener.task in
    ap (λ m. m.1) x.turned.after ∙ ap (λ m. m.1) (e.2 c.find-slot.result f.begun.opener.task).after ∙ f.id

pub returns-clause-begun : goal.returns-clause-begun
returns-clause-begun g c =
    let slot = c.find-slot.result in
    let f = c.find-slot.ensures in
    let e = c.fetch_and.ensures in
    let b = begun_by _ c.find-slot.new.place.me c.fetch_and.new.seat.me (Found slot) (Claimed slot) c.find-slot.new.place.me.0.fresh f.begun.opener (e.2 slot f.begun.opener.task) in
    let x = c.store.ensures.2 slot b.opener.task in
    let y = begun_by _ c.fetch_and.new.seat.me c.store.new.seat.me (Claimed slot) (Filled slot 0) c.fetch_and.new.seat.me.0.fresh b.opener x.turned in
    begun_on _ c.args.place.now.me.0 c.fetch_and.new.seat.me.0 c.store.new.seat.me.0 (Claimed slot) (Filled slot 0)
    (begun_on _ c.args.place.now.me.0 c.find-slot.new.place.me.0 c.fetch_and.new.seat.me.0 (Found slot) (Claimed slot) f.begun b) y

pub returns-clause-free : goal.returns-clause-free
returns-clause-free g c =
    let slot = c.find-slot.result in
    let f = c.find-slot.ensures in
    let e = c.fetch_and.ensures in
    let b = begun_by _ c.find-slot.new.place.me c.fetch_and.new.seat.me (Found slot) (Claimed slot) c.find-slot.new.place.me.0.fresh f.begun.opener (e.2 slot f.begun.opener.task) in
    for_none _ slot c.fetch_and.new.seat.me c.store.new.seat.me b.opener.plan (c.store.ensures.2 slot b.opener.task)
