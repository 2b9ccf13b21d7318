use Rattle.std.proofs.Common.{◌∙◌, length, ap}
use Rattle.std.specs.Prelude.{slice_get}
use Rattle.searcher_table.proofs.Row.{got_here}
use Rattle.table_rows.proofs.table.three_holds.Goals as goal

pub hold-pass-requires : goal.hold-pass-requires
hold-pass-requires c =
    let rest = c.pop.new.self.items in
    let pass = c.in_ok-pass.pass in
    (c.in-Ok.ensures.passes (length rest) pass (ap (λ ps. slice_get ps (length rest)) c.in_ok-pass.ensures.items ∙ got_here rest pass)).announced
