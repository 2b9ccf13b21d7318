use Rattle.script_maker.proofs.MadeReads.{config_made, limits_made, script_made}
use Rattle.script_maker.proofs.laws.made_scripts_read.Goals as goal

pub returns : goal.returns
returns c = record { config = config_made; script = script_made; limits = limits_made }
