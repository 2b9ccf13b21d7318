use Rattle.std.proofs.Common.{◌≡◌, [], ◌∙◌, refl, sym, subst}
use Rattle.registry_machine.specs.declared.entry.Entry.TheVariants.{Open}
use Rattle.searcher_table.specs.Registrars.{plan_of}
use Rattle.searcher_table.proofs.Frame.{all_map}
use Rattle.table_rows.proofs.Chain.{one_call_more, one_opening_more, refused_counts}
use Rattle.table_rows.specs.TableTrials.{HasOneOpeningMore}
use Rattle.table_rows.proofs.table.open.Goals as goal

pub execute_open-requires-clause-fit : goal.execute_open-requires-clause-fit
execute_open-requires-clause-fit c = λ _.
    let r = c.args.registrar.now in
    let doors = c.requires.doors in record {
      count = doors.0 ∙ sym c.requires.table.callers;
      settings = all_map (λ d. d.number ≡ 9) (λ _. 0 ≡ (plan_of r).setting.value) (λ _ _. sym c.requires.table.setting) c.args.doors.items doors.1;
      same = (9, doors.1);
      unused = all_map (λ d. d.number ≡ 9) (λ _. [] ≡ []) (λ _ _. refl) c.args.doors.items doors.1;
    }

pub returns-in-Ok-clause-more : goal.returns-in-Ok-clause-more
returns-in-Ok-clause-more c =
    let o = c.in-Ok.ensures.opened in
    let a = c.announce-call.result in
    one_call_more c.args.registrar.now c.execute_open.new.self a (Open a.caller a.asked.content c.in-Ok.opening.generation o.slot o.shown) o.entry refl

pub returns-in-Ok-clause-opened : goal.returns-in-Ok-clause-opened
returns-in-Ok-clause-opened c =
    let a = c.announce-call.ensures in
    let n = c.note.ensures in
    subst (HasOneOpeningMore c.args.pass.now c.meet.new.self 0) (sym (c.generation.ensures ∙ n.opening.generation))
    (one_opening_more c.args.pass.now c.announce-call.new.self c.meet.new.self 0 c.announce-call.result c.args.registrar.now c.execute_open.new.self c.args.doors.items (λ d. d.number) c.in-Ok.opening c.note.result
    a.pass a.call c.in-Ok.ensures.opened (n.note.seen ∙ n.opening.seen) c.meet.ensures)

pub returns-in-Err-clause-more : goal.returns-in-Err-clause-more
returns-in-Err-clause-more c = refused_counts c.args.registrar.now c.execute_open.new.self c.announce-call.result c.in-Err.refusal c.in-Err.ensures.refused
