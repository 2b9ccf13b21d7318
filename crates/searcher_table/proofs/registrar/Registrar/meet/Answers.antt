use Rattle.std.proofs.Common.{◌≡◌, ◌∙◌, List, refl, sym, ap, subst, arith}
use Rattle.searcher_table.proofs.Registering.{met}
use Rattle.registry_machine.specs.declared.entry.Entry.{Entry}
use Rattle.searcher_table.specs.Views.{StartsWith}
use Rattle.searcher_table.specs.Spares.{AreAt}
use Rattle.searcher_table.proofs.Gather.{joins}
use Rattle.searcher_table.proofs.Look.{looks}
use Rattle.searcher_table.proofs.registrar.Registrar.meet.Goals as goal

pub join_seat-requires : goal.join_seat-requires
join_seat-requires g c =
    let registrar = c.args.self.now in
    let note = c.args.note in
    let table = c.deref.result.now.shared in
    let same : registrar.place.table_id ≡ table.table_id = registrar.at_table ∙ sym (ap (λ t. t.shared.table_id) c.deref.ensures) in
    let words : table.table_id.words ≡ 1168 = ap (λ z. z.words) (sym same) ∙ registrar.sized in (
      same,
      c.requires ∙ same,
      note.bare,
      omega arith,
      joins g.D.Shown.setting g.D.Shown.docs g.D.Shown.list table.key registrar.place.id registrar.place.me.0 note.place.id note.place.me.0,
    )

pub load-requires : goal.load-requires
load-requires g c =
    let registrar = c.args.self.now in
    let table = c.deref.result.now.shared in
    let same : registrar.place.table_id ≡ table.table_id = registrar.at_table ∙ sym (ap (λ t. t.shared.table_id) c.deref.ensures) in
    let words : table.table_id.words ≡ 1168 = ap (λ z. z.words) (sym same) ∙ registrar.sized in (
      c.join_seat.ensures.0 ∙ same,
      omega arith,
      looks g.D.Shown.setting g.D.Shown.docs g.D.Shown.list table.key table.table_id.slots c.join_seat.new.seat.id c.join_seat.new.seat.me 16,
    )

pub invariant_of-self-clause-counted : goal.invariant_of-self-clause-counted
invariant_of-self-clause-counted g c = (met c.args.self.now c.args.note.place.me.0 c.join_seat.new.seat.me c.load.new.seat.me c.load.ensures.2.log c.join_seat.ensures.2 c.load.ensures.2.covers (ap (λ m. m.0.seen) c.load.ensures.2.after)).places

pub invariant_of-self-clause-last_is : goal.invariant_of-self-clause-last_is
invariant_of-self-clause-last_is g c = (met c.args.self.now c.args.note.place.me.0 c.join_seat.new.seat.me c.load.new.seat.me c.load.ensures.2.log c.join_seat.ensures.2 c.load.ensures.2.covers (ap (λ m. m.0.seen) c.load.ensures.2.after)).mirrors.last

pub invariant_of-self-clause-warming_are : goal.invariant_of-self-clause-warming_are
invariant_of-self-clause-warming_are g c = (met c.args.self.now c.args.note.place.me.0 c.join_seat.new.seat.me c.load.new.seat.me c.load.ensures.2.log c.join_seat.ensures.2 c.load.ensures.2.covers (ap (λ m. m.0.seen) c.load.ensures.2.after)).mirrors.warming

pub invariant_of-self-clause-current_is : goal.invariant_of-self-clause-current_is
invariant_of-self-clause-current_is g c = (met c.args.self.now c.args.note.place.me.0 c.join_seat.new.seat.me c.load.new.seat.me c.load.ensures.2.log c.join_seat.ensures.2 c.load.ensures.2.covers (ap (λ m. m.0.seen) c.load.ensures.2.after)).mirrors.current

pub invariant_of-self-clause-spares : goal.invariant_of-self-clause-spares
invariant_of-self-clause-spares g c = subst (λ z. AreAt z c.args.self.now.spare.items) (sym (c.load.ensures.0 ∙ c.join_seat.ensures.0)) c.args.self.now.spares

pub returns : goal.returns
returns g c =
    let l = c.load.ensures.2 in
    let e = c.join_seat.ensures in
    let h = met c.args.self.now c.args.note.place.me.0 c.join_seat.new.seat.me c.load.new.seat.me c.load.ensures.2.log c.join_seat.ensures.2 c.load.ensures.2.covers (ap (λ m. m.0.seen) c.load.ensures.2.after) in
    record {
      looked = record {
        registrar = record { table = c.load.ensures.0 ∙ e.0; plan = refl };
        legal = h.legal;
        back = ap (λ m. m.0.back) l.after ∙ ap (λ m. m.0.back) e.2;
        seen = h.seen;
      };
      covers = subst (λ (z : List (Entry g.row.U.Denot g.row.D-Docs.Denot g.row.D-Deed.Denot) × List (Entry g.row.U.Denot g.row.D-Docs.Denot g.row.D-Deed.Denot)). StartsWith z.0 z.1)
          (λ i. (ap (λ m. m.0.seen) (sym l.after) i, ap (λ m. m.0.told) e.2 i)) l.covers.told;
    }
