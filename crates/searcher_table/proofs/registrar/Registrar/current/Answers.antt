use Rattle.std.proofs.Common.{◌≡◌, ◌∙◌, Some, refl, sym, ap, subst, arith}
use Rattle.std.specs.Option.{option_map}
use Rattle.registry_machine.specs.Legal.{state_of}
use Rattle.searcher_table.specs.Words.{limits}
use Rattle.searcher_table.specs.Registrars.{plan_of}
use Rattle.searcher_table.proofs.Look.{peeks}
use Rattle.searcher_table.proofs.Current.{none_is, some_is}
use Rattle.searcher_table.proofs.Registering.{has_seen}
use Rattle.searcher_table.specs.Spares.{AreAt}
use Rattle.searcher_table.proofs.registrar.Registrar.current.Goals as goal

pub load-word-requires : goal.load-word-requires
load-word-requires g c =
    let registrar = c.args.self.now in
    let table = c.deref.result.now.shared in
    let same : registrar.place.table_id ≡ table.table_id = registrar.at_table ∙ sym (ap (λ t. t.shared.table_id) c.deref.ensures) in
    let words : table.table_id.words ≡ 1168 = ap (λ z. z.words) (sym same) ∙ registrar.sized in (
      same,
      omega arith,
      peeks g.D.Shown.setting g.D.Shown.docs g.D.Shown.list table.key table.table_id.slots registrar.place.id registrar.place.me (registrar.told ∙ ap (λ t. Some t.shared.key) (sym c.deref.ensures)),
    )

pub invariant_of-self-clause-counted : goal.invariant_of-self-clause-counted
invariant_of-self-clause-counted g c = (has_seen c.args.self.now c.args.self.now.place.me.0 c.load-word.new.seat.me.0 c.load-word.ensures.2.looked.log refl refl refl c.load-word.ensures.2.looked.covers (ap (λ m. m.0.seen) c.load-word.ensures.2.looked.after)).places

pub invariant_of-self-clause-last_is : goal.invariant_of-self-clause-last_is
invariant_of-self-clause-last_is g c = (has_seen c.args.self.now c.args.self.now.place.me.0 c.load-word.new.seat.me.0 c.load-word.ensures.2.looked.log refl refl refl c.load-word.ensures.2.looked.covers (ap (λ m. m.0.seen) c.load-word.ensures.2.looked.after)).mirrors.last

pub invariant_of-self-clause-warming_are : goal.invariant_of-self-clause-warming_are
invariant_of-self-clause-warming_are g c = (has_seen c.args.self.now c.args.self.now.place.me.0 c.load-word.new.seat.me.0 c.load-word.ensures.2.looked.log refl refl refl c.load-word.ensures.2.looked.covers (ap (λ m. m.0.seen) c.load-word.ensures.2.looked.after)).mirrors.warming

pub invariant_of-self-clause-current_is : goal.invariant_of-self-clause-current_is
invariant_of-self-clause-current_is g c = (has_seen c.args.self.now c.args.self.now.place.me.0 c.load-word.new.seat.me.0 c.load-word.ensures.2.looked.log refl refl refl c.load-word.ensures.2.looked.covers (ap (λ m. m.0.seen) c.load-word.ensures.2.looked.after)).mirrors.current

pub invariant_of-self-clause-spares : goal.invariant_of-self-clause-spares
invariant_of-self-clause-spares g c = subst (λ z. AreAt z c.args.self.now.spare.items) (sym c.load-word.ensures.0) c.args.self.now.spares

pub returns-clause-registrar : goal.returns-clause-registrar
returns-clause-registrar g c =
    let h = has_seen c.args.self.now c.args.self.now.place.me.0 c.load-word.new.seat.me.0 c.load-word.ensures.2.looked.log refl refl refl c.load-word.ensures.2.looked.covers (ap (λ m. m.0.seen) c.load-word.ensures.2.looked.after) in
    record { registrar = record { table = c.load-word.ensures.0; plan = refl }; legal = h.legal; back = ap (λ m. m.0.back) c.load-word.ensures.2.looked.after; seen = h.seen }

pub returns-clause-current : goal.returns-clause-current
returns-clause-current g c =
    let r = c.args.self.now in
    let l = c.load-word.ensures.2 in
    sym (ap (λ m. option_map (λ g. (g, (state_of (limits (plan_of r)) m.0.seen).acquired g)) (state_of (limits (plan_of r)) m.0.seen).current) l.looked.after
    ∙ some_is (limits (plan_of r)) l.looked.log c.load-word.result (l.tells (plan_of r) r.told) c.if-word-lt-GENERATION.false)

pub returns-then-word-lt-GENERATION-clause-registrar : goal.returns-then-word-lt-GENERATION-clause-registrar
returns-then-word-lt-GENERATION-clause-registrar g c =
    let h = has_seen c.args.self.now c.args.self.now.place.me.0 c.load-word.new.seat.me.0 c.load-word.ensures.2.looked.log refl refl refl c.load-word.ensures.2.looked.covers (ap (λ m. m.0.seen) c.load-word.ensures.2.looked.after) in
    record { registrar = record { table = c.load-word.ensures.0; plan = refl }; legal = h.legal; back = ap (λ m. m.0.back) c.load-word.ensures.2.looked.after; seen = h.seen }

pub returns-then-word-lt-GENERATION-clause-current : goal.returns-then-word-lt-GENERATION-clause-current
returns-then-word-lt-GENERATION-clause-current g c =
    let r = c.args.self.now in
    let l = c.load-word.ensures.2 in
    sym (ap (λ m. option_map (λ g. (g, (state_of (limits (plan_of r)) m.0.seen).acquired g)) (state_of (limits (plan_of r)) m.0.seen).current) l.looked.after
    ∙ none_is (limits (plan_of r)) l.looked.log c.load-word.result (l.tells (plan_of r) r.told) c.if-word-lt-GENERATION.true)
