-- What an input reads to.
use Rattle.std.specs.Prelude.{◌≡◌, ℕ, List, false, Ok, ⊤}
use Rattle.script_form.specs.Lines.{script_lines, too_large}
use Rattle.script_form.specs.ReadConfig.{config_of}
use Rattle.script_form.specs.ReadScript.{most_clients, script_of}
use Rattle.run_rows.specs.declared.running.Input.{Input}
use Rattle.run_rows.specs.declared.running.Input.TheVariants as input

-- one that reads lies within the limits, and reads to this configuration and this script
abbrev pub IsInput : List ℕ → Input → Type 0
IsInput bytes (input.Read c s) = (too_large bytes ≡ false) × (config_of bytes ≡ Ok c) × (script_of most_clients (script_lines bytes) ≡ Ok s)
IsInput bytes (input.Refused why) = ⊤
