use Rattle.std.proofs.Common.{◌≡◌, ◌∙◌, ◌<◌, length, sym, ap, refl, subst, arith}
use Rattle.registry_machine.specs.Legal.{state_of}
use Rattle.searcher_table.specs.declared.board.Task.TheVariants.{Idle, Found}
use Rattle.searcher_table.specs.Words.{limits}
use Rattle.searcher_table.proofs.Claiming.{scans, scans_on}
use Rattle.searcher_table.proofs.Preparing.{begun_by}
use Rattle.searcher_table.proofs.claim.find.Goals as goal

pub load-word-requires : goal.load-word-requires
load-word-requires g c =
    let place = c.args.place.now in
    let table = c.deref.result.now.shared in
    let r = c.requires in
    let d = c.deref.ensures in
    let same : place.table_id ≡ table.table_id = r.table ∙ sym (ap (λ t. t.shared.table_id) d) in
    let words : table.table_id.words ≡ 1168 = ap (λ z. z.words) (sym same) ∙ r.sized in (
      same,
      omega arith,
      scans g.D.Shown.setting g.D.Shown.docs g.D.Shown.list table.key table.table_id.slots place.id place.me 24 refl r.opener.role r.opener.task (subst (λ t. length (state_of (limits t.shared.key) place.me.0.seen).warming < t.shared.key.max_warming) (sym d) r.room),
    )

pub load-word-requires-2 : goal.load-word-requires-2
load-word-requires-2 g c =
    let place = c.args.place.now in
    let table = c.deref-2.result.now.shared in
    let e = c.load-word.ensures in
    let r = c.requires in
    let x = e.2 in
    let b = begun_by _ place.me c.load-word.new.seat.me Idle (Found x.slot) place.me.0.fresh r.opener x.turned in
    let same : place.table_id ≡ table.table_id = r.table ∙ sym (ap (λ t. t.shared.table_id) c.deref-2.ensures) in
    let words : table.table_id.words ≡ 1168 = ap (λ z. z.words) (sym same) ∙ r.sized in (
      e.0 ∙ same,
      omega arith,
      scans_on g.D.Shown.setting g.D.Shown.docs g.D.Shown.list table.key table.table_id.slots c.load-word.new.seat.id c.load-word.new.seat.me 32 x.slot refl b.opener.role b.opener.task (x.other c.if-word-ne0.false),
    )
