use Rattle.script_form.proofs.Ranges.{read_is_config}
use Rattle.script_form.proofs.config.read_config.Goals as goal

pub returns-clause-ranges : goal.returns-clause-ranges
returns-clause-ranges c = read_is_config c.as_slice.result.now c.in_ok-config.config c.in_ok-config.ensures
