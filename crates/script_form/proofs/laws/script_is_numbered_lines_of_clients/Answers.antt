use Rattle.script_form.proofs.ScriptRanges.{front_is_script, script_is}
use Rattle.script_form.proofs.laws.script_is_numbered_lines_of_clients.Goals as goal

pub returns : goal.returns
returns c = record { front = front_is_script; whole = script_is }
