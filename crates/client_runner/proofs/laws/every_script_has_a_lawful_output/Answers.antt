use Rattle.client_runner.proofs.AllIdle.{some_lawful}
use Rattle.client_runner.proofs.laws.every_script_has_a_lawful_output.Goals as goal

pub returns : goal.returns
returns c = some_lawful
