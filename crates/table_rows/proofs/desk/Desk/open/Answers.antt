use Rattle.std.proofs.Common.{◌≡◌, [], sym, ap, refl, ◌∙◌, arith}
use Rattle.searcher_table.specs.Registrars.{plan_of}
use Rattle.searcher_table.proofs.Frame.{all_map}
use Rattle.table_rows.proofs.Turns.{entered, entered_counts}
use Rattle.table_rows.proofs.desk.Desk.open.Goals as goal

pub execute_open-answer-requires-clause-fit : goal.execute_open-answer-requires-clause-fit
execute_open-answer-requires-clause-fit c = λ _.
    let s = c.args.self.now in
    let items = c.in_ok-doors.doors.items in
    let doors = c.in_ok-doors.ensures in record {
      count = doors.0 ∙ sym s.for_each;
      settings = all_map (λ d. d.number ≡ 9) (λ _. 0 ≡ (plan_of s.registrar).setting.value) (λ _ _. sym s.setting) items doors.1;
      same = (9, doors.1);
      unused = all_map (λ d. d.number ≡ 9) (λ _. [] ≡ []) (λ _ _. refl) items doors.1;
    }

pub invariant_of-self : goal.invariant_of-self
invariant_of-self c =
    let s = c.args.self.now in
    let q = c.execute_open-answer.new.self in
    let a = c.announce-call.ensures in
    let o = c.execute_open-answer.ensures in
    let n = c.note-note.ensures in
    let e = entered s.registrar q c.announce-call.result (λ d. d.number) c.in_ok-doors.doors.items (λ x. x.0) c.execute_open-answer.result o.opened o.refused in
    let both = entered_counts s.pass c.announce-call.new.self c.meet.new.self _ c.announce-call.result s.registrar q c.note-note.new.self c.note-note.result s.ready a.pass a.call e n.registrar n.note c.meet.ensures in
    let more = both.1 in record {
      ready = both.0;
      setting = ap (λ p. p.setting.value) more.registrar.plan ∙ s.setting;
      for_each = ap (λ p. p.callers) more.registrar.plan ∙ s.for_each;
      counted =
          let h = more.places in
          let b = s.counted in
          let k = c.in_ok-places.ensures in
          omega arith;
    }
