use Rattle.script_form.proofs.Ranges.{config_is}
use Rattle.script_form.proofs.laws.configuration_is_within_ranges.Goals as goal

pub returns : goal.returns
returns c = config_is
