use Rattle.std.proofs.Common.{◌≡◌, [], append-nil, sym, ap, subst, rules, ◌∙◌}
use Rattle.std.specs.Prelude.{IfOk}
use Rattle.view_cells.specs.Lists.{entries_of}
use Rattle.registry_core.specs.Finishes.{finishes_of}
use Rattle.view_cells.specs.Seats.{IsIdle, own_list, view_of}
use Rattle.searcher_table.specs.Passes.{sighted}
use Rattle.searcher_table.specs.Registrars.{table_of, plan_of}
use Rattle.registry_core.specs.Opening.{IsExecuted}
use Rattle.registry_core.proofs.commit.executed.Goals as goal

pub put_back-requires-clause-own : goal.put_back-requires-clause-own
put_back-requires-clause-own g c =
    let t = c.take-held.ensures in
    let same = c.open-result.ensures.same.finishes ∙ ap (λ l. l.finishes.items) c.value.ensures.value in
    let had = (λ i. finishes_of (t.taken.seat.number i) (same i)) ∙ t.fits.own ∙ (λ i. entries_of (sym t.taken.seat.number i) (sym t.taken.lists i)) in
    ([], had ∙ sym (append-nil _))

pub put_back-requires-clause-others : goal.put_back-requires-clause-others
put_back-requires-clause-others g c =
    let t = c.take-held.ensures in
    let same = c.open-result.ensures.same.finishes ∙ ap (λ l. l.finishes.items) (c.value.ensures.value ∙ sym t.fresh) in
    λ n _ _. ap (finishes_of n) same

pub returns-clause-back : goal.returns-clause-back
returns-clause-back g c =
    let t = c.take-held.ensures in
    let same = c.open-result.ensures.same.finishes ∙ ap (λ l. l.finishes.items) c.value.ensures.value in
    let last : c.lock-1.given.0 ≡ c.put_back.new.self.0 = c.lock-1.given.1 (sym t.same_reference) in
    record {
      seat = search rules;
      idle = subst IsIdle (sym last) c.put_back.ensures.idle;
      own = ap own_list last ∙ c.put_back.ensures.own ∙ (λ i. finishes_of (t.taken.seat.number i) (same i)) ∙ t.fits.own;
    }

pub returns-clause-executed : goal.returns-clause-executed
returns-clause-executed g c =
    let n = c.take-held.ensures.fits.view.named in
    let same = c.value.ensures.value in
    let r = c.open-result.result in
    let Right = g.W.Writer.shows in
    subst (λ p. IfOk r.0 (IsExecuted p.setting.value Right (table_of (view_of c.args.lock.now).registrar.value) c.args.call (sighted r.1))) (ap (λ l. plan_of l.registrar) same ∙ n.plan)
    (subst (λ table. IfOk r.0 (IsExecuted (plan_of c.value.result.now.registrar).setting.value Right table c.args.call (sighted r.1))) (ap (λ l. table_of l.registrar) same ∙ n.table) c.open-result.ensures.executed)
