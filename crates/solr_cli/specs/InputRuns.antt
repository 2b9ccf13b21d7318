-- What running an input gives, below the top call.
use Rattle.std.specs.Prelude.{◌≡◌, ℕ, List, [], Option, Some, IfSome, Result, Ok, Err, IfOk, ⊤}
use Rattle.field_schema.specs.declared.text.Text.{Text}
use Rattle.script_form.specs.declared.config.Config.{Config}
use Rattle.script_form.specs.declared.script.Line.{Line}
use Rattle.client_runner.specs.declared.rows.Output.{Output}
use Rattle.solr_cli.specs.declared.status.Status.{Status}
use Rattle.solr_cli.specs.declared.status.Status.TheVariants as status
use Rattle.script_counts.specs.Counts.{check_text}
use Rattle.solr_cli.specs.Answering.{IsRefusal, ReadsTo}
use Rattle.solr_cli.specs.Top.{CountsReads, IsRun}

-- a read fault is told where the source's count rose, and all else where it is as before
abbrev pub TellsReads : {A : Type 0} → ℕ → ℕ → Result A Status → Type 0
TellsReads before now (Ok x) = now ≡ before
TellsReads before now (Err s) = CountsReads s before now

-- why an input was not run
abbrev pub IsReadRefusal : List ℕ → Status → Type 0
IsReadRefusal input status.ReadFault = ⊤
IsReadRefusal input s = IsRefusal input s

-- a status that refuses an input
abbrev pub Refuses : Status → Type 0
Refuses status.Done = ⊥
Refuses status.Usage = ⊥
Refuses status.WriteFault = ⊥
Refuses _ = ⊤

-- what running an input gives: its output and the output's text
pub record IsRunFrom (input : List ℕ) (left : Option (List ℕ)) (output : Output) : Type 0 where
  pub ended : left ≡ Some []
  pub ran : IsRun input output

-- the same where the source tells its bytes and the input was run
abbrev pub RanFrom : Option (List ℕ) → Option (List ℕ) → Result (Config × Output) Status → Type 0
RanFrom before after result = IfSome before (λ input. IfOk result (λ r. IsRunFrom input after r.1))

-- ---- the counts of a script

abbrev pub IsCountsLine : List ℕ → Type 0
IsCountsLine text = (script : List Line) × (text ≡ check_text script)

-- the input reads, and this is the line of its script's counts
abbrev pub TellsCounts : List ℕ → List ℕ → Type 0
TellsCounts input text = (config : Config) × (script : List Line) × ReadsTo input config script × (text ≡ check_text script)

-- the same, of an input that was read to its end
abbrev pub IsCountOf : List ℕ → Option (List ℕ) → List ℕ → Type 0
IsCountOf input left text = (left ≡ Some []) × TellsCounts input text

abbrev pub TellsCountsFrom : Option (List ℕ) → Option (List ℕ) → Result Text Status → Type 0
TellsCountsFrom before after result = IfSome before (λ input. IfOk result (IsCountOf input after))
