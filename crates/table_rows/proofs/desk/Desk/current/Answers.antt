use Rattle.std.proofs.Common.{ap, ◌∙◌}
use Rattle.searcher_table.specs.Registrars.{seen_of}
use Rattle.searcher_table.proofs.Places.{same_places}
use Rattle.table_rows.proofs.Turns.{still_ready}
use Rattle.table_rows.proofs.desk.Desk.current.Goals as goal

pub invariant_of-self : goal.invariant_of-self
invariant_of-self c =
    let s = c.args.self.now in
    let q = c.current.new.self in
    let looked = c.current.ensures.registrar in
    record {
      ready = still_ready s.registrar q s.pass s.ready looked.registrar;
      setting = ap (λ p. p.setting.value) looked.registrar.plan ∙ s.setting;
      for_each = ap (λ p. p.callers) looked.registrar.plan ∙ s.for_each;
      counted = same_places (seen_of q) (seen_of s.registrar) looked.seen ∙ s.counted;
    }
