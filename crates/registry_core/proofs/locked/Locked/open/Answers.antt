use Rattle.std.proofs.Common.{refl, sym, subst, ◌∙◌}
use Rattle.std.specs.Prelude.{IfOk}
use Rattle.searcher_table.specs.Registrars.{table_of, plan_of}
use Rattle.registry_core.specs.Opening.{IsExecuted}
use Rattle.registry_core.proofs.Kept.{stays}
use Rattle.registry_core.proofs.locked.Locked.open.Goals as goal

pub returns-clause-kept : goal.returns-clause-kept
returns-clause-kept g c = stays g.W.Writer c.execute_open-result.new.self _ c.execute_open-result.ensures.kept c.note-note.ensures.registrar refl refl refl refl refl refl refl

pub returns-clause-executed : goal.returns-clause-executed
returns-clause-executed g c =
    let r = c.args.self.now.registrar in
    let n = c.note-note.ensures in
    subst (λ log. IfOk c.execute_open-result.result (IsExecuted (plan_of r).setting.value g.W.Writer.shows (table_of r) c.args.call log)) (sym (n.note.seen ∙ n.registrar.seen)) c.execute_open-result.ensures.executed
