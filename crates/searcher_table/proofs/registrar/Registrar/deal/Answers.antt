use Rattle.std.proofs.Common.{◌≡◌, ◌≤◌, ◌∙◌, sym, ap, arith}
use Rattle.searcher_table.proofs.Deal.{deals}
use Rattle.searcher_table.proofs.registrar.Registrar.deal.Goals as goal

pub split_seat-place-requires : goal.split_seat-place-requires
split_seat-place-requires g c =
    let registrar = c.args.self.now in
    let table = c.deref.result.now.shared in
    let same : registrar.place.table_id ≡ table.table_id = registrar.at_table ∙ sym (ap (λ t. t.shared.table_id) c.deref.ensures) in
    let left : registrar.place.me.0.next ≤ table.key.callers = (let n = c.requires.next.0 in let f = c.requires.few in let k = ap (λ t. t.shared.key.callers) c.deref.ensures in omega arith) in
    let words : table.table_id.words ≡ 1168 = ap (λ z. z.words) (sym same) ∙ registrar.sized in (
      same,
      omega arith,
      deals g.D.Shown.setting g.D.Shown.docs g.D.Shown.list table.key registrar.place.id registrar.place.me.0 registrar.role left,
    )

pub invariant_of-result-clause-idle : goal.invariant_of-result-clause-idle
invariant_of-result-clause-idle g c = ap (λ m. m.0.task) c.split_seat-place.ensures.4

pub invariant_of-result-clause-ranged : goal.invariant_of-result-clause-ranged
invariant_of-result-clause-ranged g c =
    let few = c.requires.few in
    let most = c.args.self.now.few_callers in
    let next = c.requires.next.1 in
    (next, omega arith)
