use Rattle.std.proofs.Common.{arith, subst}
use Rattle.script_form.specs.Lines.{script_lines}
use Rattle.script_form.specs.ReadScript.{most_clients}
use Rattle.script_form.proofs.ScriptRanges.{script_is}
use Rattle.client_runner.proofs.Inputs.{numbers_ascend, sizes_are, some_warming, within_lines}
use Rattle.run_rows.specs.Inputs.{IsInput}
use Rattle.run_rows.proofs.running.run.Goals as goal

-- what a run asks for holds of what reads
pub run_script-requires-clause-sizes : goal.run_script-requires-clause-sizes
run_script-requires-clause-sizes g c κs within =
    let reads = subst (IsInput c.args.bytes.now) c.in-Read.is c.in_ok-input.ensures in
    sizes_are c.args.bytes.now c.in-Read.config reads.1

pub run_script-requires-clause-warming : goal.run_script-requires-clause-warming
run_script-requires-clause-warming g c κs within =
    let reads = subst (IsInput c.args.bytes.now) c.in-Read.is c.in_ok-input.ensures in
    some_warming c.args.bytes.now c.in-Read.config reads.1

pub run_script-requires-clause-lines : goal.run_script-requires-clause-lines
run_script-requires-clause-lines g c κs within =
    let reads = subst (IsInput c.args.bytes.now) c.in-Read.is c.in_ok-input.ensures in
    let same = (script_is most_clients (script_lines c.args.bytes.now) c.in-Read.script reads.2).1 in
    let most = within_lines c.args.bytes.now reads.0 in
    omega (arith, same, most)

pub run_script-requires-clause-numbers : goal.run_script-requires-clause-numbers
run_script-requires-clause-numbers g c κs within =
    let reads = subst (IsInput c.args.bytes.now) c.in-Read.is c.in_ok-input.ensures in
    numbers_ascend c.in-Read.script (script_is most_clients (script_lines c.args.bytes.now) c.in-Read.script reads.2).0

pub run_script-requires-clause-clients : goal.run_script-requires-clause-clients
run_script-requires-clause-clients g c κs within =
    let reads = subst (IsInput c.args.bytes.now) c.in-Read.is c.in_ok-input.ensures in
    (script_is most_clients (script_lines c.args.bytes.now) c.in-Read.script reads.2).0.asked
