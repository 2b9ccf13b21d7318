use Rattle.std.proofs.Common.{sym, ◌∙◌, ℕ, List, length, take, drop, ◌-◌, ◌≤◌, length-drop, length-take, arith}
use Rattle.script_form.specs.Lines.{most_input}
use Rattle.client_runner.proofs.Inputs.{within_input}
use Rattle.run_rows.proofs.running.read.Goals as goal

-- what stands behind a place is no longer than the whole
rest_within : (bytes : List ℕ) (begin most : ℕ) → length bytes ≤ most → length (take (length bytes - begin) (drop begin bytes)) ≤ most
rest_within bytes begin most h = simp (length-take, length-drop) (omega (arith, h))

pub read_script-requires : goal.read_script-requires
read_script-requires c =
    let within = within_input c.args.bytes.now (sym c.too_large.ensures ∙ c.if-too_large.false) in
    let rest = rest_within c.args.bytes.now c.in-Ok.read.1 most_input within in
    omega (arith, rest)
