use Rattle.std.proofs.Common.{◌≡◌, ◌-◌, ◌∙◌, sym, ap, subst}
use Rattle.std.specs.Arc.{arc_value}
use Rattle.std.specs.Prelude.{◌^◌}
use Rattle.searcher_table.specs.Spares.{AreAt}
use Rattle.searcher_table.proofs.Beginning.{opens_with}
use Rattle.searcher_table.proofs.registrar.Registrar.first.Goals as goal

pub new-requires : goal.new-requires
new-requires g c =
    let r = c.requires in
    opens_with g.D.Shown.setting g.D.Shown.docs g.D.Shown.list c.args.plan.now _ _ c.in_ok-cells.cells.items record { callers = r.callers.1; warming = r.warming; generation = (r.first, r.last); budget = r.budget } c.in_ok-cells.ensures.count c.in_ok-cells.ensures.empty
    (c.ones.ensures ∙ ap (λ n. 2 ^ n - 1) c.min.ensures) (c.ones-2.ensures ∙ ap (λ n. 2 ^ n - 1) c.saturating_sub.ensures)

pub invariant_of-result-clause-spares : goal.invariant_of-result-clause-spares
invariant_of-result-clause-spares g c =
    let h = c.in-Ok.ensures.ok in
    let k = c.in-Ok-new.ensures.ok in
    let at : c.in-Ok.place.table_id ≡ (arc_value c.in-Ok-new.table).shared.table_id = h.2 ∙ ap (λ t. t.shared.table_id) (sym k) in
    subst (λ z. AreAt z c.in_ok-spare.spare.items) (sym at) c.in_ok-spare.ensures.table
