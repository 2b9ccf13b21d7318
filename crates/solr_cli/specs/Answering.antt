-- What the bytes of an input are answered.
use Rattle.std.specs.Prelude.{◌≡◌, ℕ, List, false, true, Ok, Err, ⊤}
use Rattle.script_form.specs.declared.config.Config.{Config}
use Rattle.script_form.specs.declared.config.ConfigFault.{ConfigFault}
use Rattle.script_form.specs.declared.script.Line.{Line}
use Rattle.script_form.specs.declared.script.LineFault.{LineFault}
use Rattle.script_form.specs.Lines.{too_large, script_lines}
use Rattle.script_form.specs.ReadConfig.{config_of}
use Rattle.script_form.specs.ReadScript.{most_clients, script_of}
use Rattle.script_form.specs.declared.script.ScriptRefusal.TheVariants as script_refusal
use Rattle.script_form.specs.declared.config.ConfigRefusal.TheVariants as config_refusal
use Rattle.run_laws.specs.Rows.{Output}
use Rattle.run_laws.specs.Lawful.{Lawful}
use Rattle.run_laws.specs.Notes.{TellNotes}
use Rattle.client_runner.specs.Histories.{GoesByHistory}
use Rattle.solr_cli.specs.declared.status.Status.{Status}
use Rattle.solr_cli.specs.declared.status.Status.TheVariants as status

-- the input lies within the limits, and reads to this configuration and this script
pub record ReadsTo (input : List ℕ) (c : Config) (ls : List Line) : Type 0 where
  pub within : too_large input ≡ false
  pub config : config_of input ≡ Ok c
  pub script : script_of most_clients (script_lines input) ≡ Ok ls

-- the first check of the configuration that fails
pub record IsBadConfig (input : List ℕ) (fault : ConfigFault) : Type 0 where
  pub within : too_large input ≡ false
  pub config : config_of input ≡ Err (config_refusal.Fault fault)

-- the script's first fault
pub record IsBadLine (input : List ℕ) (c : Config) (fault : LineFault) : Type 0 where
  pub within : too_large input ≡ false
  pub config : config_of input ≡ Ok c
  pub script : script_of most_clients (script_lines input) ≡ Err (script_refusal.Fault fault)

-- why an input is refused: each status has its cause in the bytes, and want of memory is free
abbrev pub IsRefusal : List ℕ → Status → Type 0
IsRefusal input (status.BadConfig at name) = IsBadConfig input (record { at = at; name = name })
IsRefusal input (status.BadLine line name) = (config : Config) × IsBadLine input config (record { line = line; name = name })
IsRefusal input status.TooLarge = too_large input ≡ true
IsRefusal input status.NoMemory = ⊤
IsRefusal input _ = ⊥

-- the input reads to this configuration, and its output goes by a legal history, is lawful and tells the notes of its requests
pub record IsAnswer (input : List ℕ) (config : Config) (output : Output) : Type 0 where
  pub script : List Line
  pub reads : ReadsTo input config script
  pub history : GoesByHistory config script output
  pub lawful : Lawful config script output
  pub notes : TellNotes config script output
