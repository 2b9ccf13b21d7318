use Rattle.std.proofs.Common.{◌∷◌, [], length, sym, ap, subst, ◌∙◌, count_by}
use Rattle.std.specs.Prelude.{slice_get}
use Rattle.registry_machine.specs.Entries.{has_place}
use Rattle.searcher_table.specs.Making.{AreDealt}
use Rattle.searcher_table.proofs.Row.{got_here, got_before}
use Rattle.table_rows.proofs.desk.start.Goals as goal

pub invariant_of-desk : goal.invariant_of-desk
invariant_of-desk c =
    let made = c.in-Ok.ensures in
    let rest = c.pop.new.self.items in
    let pass = c.in_ok-pass.pass in
    let new = made.passes (length rest) pass (ap (λ ps. slice_get ps (length rest)) c.in_ok-pass.ensures.items ∙ got_here rest pass) in
    record {
      ready = record { table = new.table; none = new.announced };
      setting = made.setting;
      for_each = made.numbers.callers;
      counted = ap (count_by has_place) made.registrar;
    }

pub returns : goal.returns
returns c = λ i t here.
    let rest = c.pop.new.self.items in
    let pass = c.in_ok-pass.pass in
    c.in-Ok.ensures.passes i t (ap (λ ps. slice_get ps i) c.in_ok-pass.ensures.items ∙ got_before rest (pass ∷ []) i t here)
