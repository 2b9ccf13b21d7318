use Rattle.std.proofs.Common.{[], ap, ◌∙◌, arith}
use Rattle.table_rows.proofs.Turns.{published_counts, still_ready}
use Rattle.table_rows.proofs.desk.Desk.publish.Goals as goal

pub invariant_of-self : goal.invariant_of-self
invariant_of-self c =
    let s = c.args.self.now in
    let q = c.publish-published.new.self in
    let more = published_counts [] s.registrar q c.args.opening c.publish-published.result c.publish-published.ensures in
    record {
      ready = still_ready s.registrar q s.pass s.ready more.registrar;
      setting = ap (λ p. p.setting.value) more.registrar.plan ∙ s.setting;
      for_each = ap (λ p. p.callers) more.registrar.plan ∙ s.for_each;
      counted =
          let a = more.places in
          let b = s.counted in
          let n = c.in_ok-places.ensures in
          omega arith;
    }
