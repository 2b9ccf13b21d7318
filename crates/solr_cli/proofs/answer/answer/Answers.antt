use Rattle.std.proofs.Common.{arith}
use Rattle.script_form.specs.Lines.{script_lines}
use Rattle.script_form.specs.ReadScript.{most_clients}
use Rattle.script_form.proofs.ScriptRanges.{script_is}
use Rattle.client_runner.proofs.Inputs.{numbers_ascend, sizes_are, some_warming, within_lines}
use Rattle.solr_cli.proofs.answer.answer.Goals as goal

pub run_script-requires-clause-sizes : goal.run_script-requires-clause-sizes
run_script-requires-clause-sizes g c κs within =
    sizes_are c.args.bytes.now c.in_ok-config.config c.in_ok-config.ensures.config

pub run_script-requires-clause-warming : goal.run_script-requires-clause-warming
run_script-requires-clause-warming g c κs within =
    some_warming c.args.bytes.now c.in_ok-config.config c.in_ok-config.ensures.config

pub run_script-requires-clause-lines : goal.run_script-requires-clause-lines
run_script-requires-clause-lines g c κs within =
    let same = (script_is most_clients (script_lines c.args.bytes.now) c.in_ok-config.script c.in_ok-config.ensures.script).1 in
    let most = within_lines c.args.bytes.now c.in_ok-config.ensures.within in
    omega (arith, same, most)

pub run_script-requires-clause-numbers : goal.run_script-requires-clause-numbers
run_script-requires-clause-numbers g c κs within =
    numbers_ascend c.in_ok-config.script (script_is most_clients (script_lines c.args.bytes.now) c.in_ok-config.script c.in_ok-config.ensures.script).0

pub run_script-requires-clause-clients : goal.run_script-requires-clause-clients
run_script-requires-clause-clients g c κs within =
    (script_is most_clients (script_lines c.args.bytes.now) c.in_ok-config.script c.in_ok-config.ensures.script).0.asked
