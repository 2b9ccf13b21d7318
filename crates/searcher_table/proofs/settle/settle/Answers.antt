use Rattle.std.proofs.Common.{◌≡◌, ◌+◌, ◌*◌, ◌/◌, ◌%◌, ◌∙◌, sym, ap, refl, inr, arith}
use Rattle.std.specs.Prelude.{◌^◌}
use Rattle.searcher_table.proofs.Settling.{settles}
use Rattle.searcher_table.proofs.Freeing.{frees}
use Rattle.searcher_table.proofs.Settled.{settled_kept, settled_freed, has_duty}
use Rattle.searcher_table.proofs.settle.settle.Goals as goal

pub fetch_add-found-requires : goal.fetch_add-found-requires
fetch_add-found-requires g c =
    let place = c.args.place.now in
    let table = c.deref.result.now.shared in
    let r = c.requires in
    let low = r.below in
    let same : place.table_id ≡ table.table_id = r.table ∙ sym (ap (λ t. t.shared.table_id) c.deref.ensures) in
    let words : table.table_id.words ≡ 1168 = ap (λ z. z.words) (sym same) ∙ r.sized in (
      same,
      omega arith,
      settles g.D.Shown.setting g.D.Shown.docs g.D.Shown.list table.key table.table_id.slots place.id place.me (64 + 8 * c.args.slot) ((c.from.result + 1) * 4294967296) c.args.slot c.args.generation c.args.total refl (ap (λ n. (n + 1) * 4294967296) c.from.ensures) r.begun.role r.begun.task,
    )

pub returns-then-found-from-clause-id : goal.returns-then-found-from-clause-id
returns-then-found-from-clause-id g c = ap (λ m. m.1) (c.fetch_add-found.ensures.2 c.args.slot c.args.generation c.args.total c.requires.begun.task).turned.after

pub returns-then-found-from-clause-settled : goal.returns-then-found-from-clause-settled
returns-then-found-from-clause-settled g c =
    settled_kept _ c.args.slot c.args.generation c.args.total c.fetch_add-found.result c.args.place.now.me c.fetch_add-found.new.seat.me c.requires.begun
    (c.fetch_add-found.ensures.2 c.args.slot c.args.generation c.args.total c.requires.begun.task) (λ same. c.if-found-from.true (same ∙ sym c.from-2.ensures))

pub fetch_or-requires : goal.fetch_or-requires
fetch_or-requires g c =
    let place = c.args.place.now in
    let table = c.deref-2.result.now.shared in
    let r = c.requires in
    let low = r.below in
    let mid = c.fetch_add-found.new.seat in
    let x = c.fetch_add-found.ensures.2 c.args.slot c.args.generation c.args.total r.begun.task in
    let duty = has_duty _ c.args.slot c.args.generation c.args.total c.fetch_add-found.result place.me mid.me r.begun x (c.if-found-from.false ∙ c.from-2.ensures) in
    let same : place.table_id ≡ table.table_id = r.table ∙ sym (ap (λ t. t.shared.table_id) c.deref-2.ensures) in
    let words : table.table_id.words ≡ 1168 = ap (λ z. z.words) (sym same) ∙ r.sized in (
      c.fetch_add-found.ensures.0 ∙ same,
      omega arith,
      frees g.D.Shown.setting g.D.Shown.docs g.D.Shown.list table.key table.table_id.slots mid.id mid.me (24 + 8 * (c.args.slot / 64)) (1 * 2 ^ (c.args.slot % 64) % 2 ^ 64) c.args.slot c.args.generation _ refl low (inr duty.role) duty.task (λ words long low m. refl),
    )

pub returns-clause-id : goal.returns-clause-id
returns-clause-id g c =
    let x = c.fetch_add-found.ensures.2 c.args.slot c.args.generation c.args.total c.requires.begun.task in
    let duty = has_duty _ c.args.slot c.args.generation c.args.total c.fetch_add-found.result c.args.place.now.me c.fetch_add-found.new.seat.me c.requires.begun x (c.if-found-from.false ∙ c.from-2.ensures) in
    ap (λ m. m.1) (c.fetch_or.ensures.2 c.args.slot c.args.generation duty.task).entered.after ∙ ap (λ m. m.1) x.turned.after

pub returns-clause-settled : goal.returns-clause-settled
returns-clause-settled g c =
    let x = c.fetch_add-found.ensures.2 c.args.slot c.args.generation c.args.total c.requires.begun.task in
    let duty = has_duty _ c.args.slot c.args.generation c.args.total c.fetch_add-found.result c.args.place.now.me c.fetch_add-found.new.seat.me c.requires.begun x (c.if-found-from.false ∙ c.from-2.ensures) in
    settled_freed _ c.args.slot c.args.generation c.args.total c.fetch_add-found.result c.args.place.now.me c.fetch_add-found.new.seat.me c.requires.begun x c.fetch_or.new.seat.me (c.if-found-from.false ∙ c.from-2.ensures)
    (c.fetch_or.ensures.2 c.args.slot c.args.generation duty.task)
