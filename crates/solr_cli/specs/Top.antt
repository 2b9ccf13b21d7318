-- What the top call promises.
use Rattle.std.specs.Prelude.{◌≡◌, ◌⊎◌, ℕ, List, [], Bool, false, true, Option, Some, None, IfSome, IsSomeAnd, ⊤}
use Rattle.std.specs.Io.KnownBytes.{Appends}
use Rattle.rt_edge.specs.Faults.{Rose}
use Rattle.rt_edge.specs.Flushes.{IsTold}
use Rattle.script_form.specs.declared.config.Config.{Config}
use Rattle.script_form.specs.declared.script.Line.{Line}
use Rattle.run_laws.specs.Lawful.{Lawful}
use Rattle.run_laws.specs.Notes.{TellNotes}
use Rattle.run_laws.specs.OutputText.{output_text}
use Rattle.run_laws.specs.Rows as plain
use Rattle.run_laws.specs.Summary.{summary_text}
use Rattle.client_runner.specs.declared.rows.Output.{Output}
use Rattle.client_runner.specs.Histories.{GoesByHistory}
use Rattle.client_runner.specs.Outputs.{output_view}
use Rattle.solr_cli.specs.declared.status.Status.{Status}
use Rattle.solr_cli.specs.declared.top.Ran.{Ran}
use Rattle.solr_cli.specs.declared.status.Status.TheVariants as status
use Rattle.script_counts.specs.Counts.{check_text}
use Rattle.script_maker.specs.Made.{made}
use Rattle.solr_cli.specs.declared.command.Command.{Command}
use Rattle.solr_cli.specs.declared.command.Command.TheVariants as command
use Rattle.solr_cli.specs.Answering.{IsRefusal, ReadsTo}
use Rattle.solr_cli.specs.Writing.{AppendsPart}

-- a read fault comes where the source's count of faults rose, and any other status where it is as before
abbrev pub CountsReads : Status → ℕ → ℕ → Type 0
CountsReads status.ReadFault before now = Rose before now
CountsReads _ before now = now ≡ before

-- the same of a write fault and the sink's count
abbrev pub CountsWrites : Status → ℕ → ℕ → Type 0
CountsWrites status.WriteFault before now = Rose before now
CountsWrites _ before now = now ≡ before

-- P, where the status is one that writes nothing
abbrev pub WhereQuiet : Status → Type 0 → Type 0
WhereQuiet status.Done P = ⊤
WhereQuiet status.WriteFault P = ⊤
WhereQuiet _ P = P

-- all of a text was appended where the command is done, and a front of it where a write failed
abbrev pub WritesText : Status → List ℕ → Option (List ℕ) → Option (List ℕ) → Type 0
WritesText status.Done text before now = Appends before now text
WritesText status.WriteFault text before now = AppendsPart before now text
WritesText _ text before now = ⊤

-- what is written of an output: its summary, or its text
abbrev pub told_text : Bool → plain.Output → List ℕ
told_text true o = summary_text o
told_text false o = output_text o

-- the text tells the output, which is there exactly where a text is written
abbrev pub WritesOutput : Bool → Status → Option Output → Option (List ℕ) → Option (List ℕ) → Type 0
WritesOutput summary status.Done output before now = IsSomeAnd output (λ o. Appends before now (told_text summary (output_view o)))
WritesOutput summary status.WriteFault output before now = IsSomeAnd output (λ o. AppendsPart before now (told_text summary (output_view o)))
WritesOutput summary _ output before now = output ≡ None

-- the text is the line of a script's counts
abbrev pub WritesCounts : Status → Option (List ℕ) → Option (List ℕ) → Type 0
WritesCounts s before now = (script : List Line) × WritesText s (check_text script) before now

-- what the command writes: the output's text or its summary, the counts of a script, or the script of the generator; the last two have no output
abbrev pub Writes : Option Command → Status → Option Output → Option (List ℕ) → Option (List ℕ) → Type 0
Writes (Some (command.Run summary)) s output before now = WritesOutput summary s output before now
Writes (Some (command.Drill n)) s output before now = WritesOutput true s output before now
Writes (Some command.Check) s output before now = (output ≡ None) × WritesCounts s before now
Writes (Some (command.Make n)) s output before now = (output ≡ None) × WritesText s (made n) before now
Writes None s output before now = output ≡ None

-- the input reads to this configuration and this script, and the output is lawful for them, by one legal history of the registry, and tells the notes of its requests
pub record RunsTo (input : List ℕ) (config : Config) (script : List Line) (output : Output) : Type 0 where
  pub reads : ReadsTo input config script
  pub history : GoesByHistory config script (output_view output)
  pub lawful : Lawful config script (output_view output)
  pub notes : TellNotes config script (output_view output)

-- the output is that of a run of the input
abbrev pub IsRun : List ℕ → Output → Type 0
IsRun input o = (config : Config) × (script : List Line) × RunsTo input config script o

-- the input was read to its end, and the output is that of a run of it
pub record IsRunOf (input : List ℕ) (left : Option (List ℕ)) (output : Option Output) : Type 0 where
  pub ended : left ≡ Some []
  pub ran : IsSomeAnd output (IsRun input)

-- why the command ended so, over the bytes of its input
abbrev pub Explains : List ℕ → Option (List ℕ) → Status → Option Output → Type 0
Explains input left status.Done output = IsRunOf input left output
Explains input left status.WriteFault output = IsRunOf input left output
Explains input left status.Usage output = ⊤
Explains input left status.ReadFault output = ⊤
Explains input left s output = IsRefusal input s

-- the same where the source tells its bytes
abbrev pub IsExplained : Option (List ℕ) → Option (List ℕ) → Status → Option Output → Type 0
IsExplained before after s output = IfSome before (λ input. Explains input after s output)

-- the input was read to its end and reads to a script, and of the line of its counts so much was appended as the status says
pub record IsCheckOf (input : List ℕ) (left : Option (List ℕ)) (s : Status) (before now : Option (List ℕ)) : Type 0 where
  pub ended : left ≡ Some []
  pub reads : (config : Config) × (script : List Line) × ReadsTo input config script × WritesText s (check_text script) before now

-- why a check ended so, over the bytes of its input
abbrev pub ExplainsCheck : List ℕ → Option (List ℕ) → Status → Option (List ℕ) → Option (List ℕ) → Type 0
ExplainsCheck input left status.Done before now = IsCheckOf input left status.Done before now
ExplainsCheck input left status.WriteFault before now = IsCheckOf input left status.WriteFault before now
ExplainsCheck input left status.Usage before now = ⊥
ExplainsCheck input left status.ReadFault before now = ⊤
ExplainsCheck input left s before now = IsRefusal input s

-- the same where the source tells its bytes
abbrev pub IsCheckExplained : Option (List ℕ) → Option (List ℕ) → Status → Option (List ℕ) → Option (List ℕ) → Type 0
IsCheckExplained left after s before now = IfSome left (λ input. ExplainsCheck input after s before now)

-- a text was written, or its writing failed
abbrev pub IsWritten : Status → Type 0
IsWritten status.Done = ⊤
IsWritten status.WriteFault = ⊤
IsWritten _ = ⊥

-- what a call that reads nothing can end with
abbrev pub EndsWriting : Status → Type 0
EndsWriting status.Done = ⊤
EndsWriting status.WriteFault = ⊤
EndsWriting status.NoMemory = ⊤
EndsWriting _ = ⊥

-- the sink told that all it holds was flushed, or tells nothing
abbrev pub IsFlushed : Option Bool → Option Bool → Type 0
IsFlushed before now = IsTold before now true

-- no fault was counted
abbrev pub IsSteady : ℕ → ℕ → Type 0
IsSteady before now = Rose before now → ⊥

-- all was written, unless memory was wanting
abbrev pub IsDoneOrWanting : Status → Type 0
IsDoneOrWanting s = (s ≡ status.Done) ⊎ (s ≡ status.NoMemory)

-- an input that reads is served by its command, unless memory was wanting
abbrev pub Completes : Status → List ℕ → Type 0
Completes s input = (config : Config) (script : List Line) → ReadsTo input config script → IsDoneOrWanting s

-- what was written tells this output, which is handed back
abbrev pub IsKept : Output → Ran → Type 0
IsKept o ran = (ran.status ≡ status.NoMemory) ⊎ (ran.output ≡ Some o)

-- what a run of the generator's script can end with: an output of that script, or want of memory
abbrev pub ExplainsDrill : ℕ → Status → Option Output → Type 0
ExplainsDrill n status.Done output = IsSomeAnd output (IsRun (made n))
ExplainsDrill n status.WriteFault output = IsSomeAnd output (IsRun (made n))
ExplainsDrill n status.NoMemory output = ⊤
ExplainsDrill n _ output = ⊥

-- ---- by the command

-- why the command ended so: by the bytes of its input, or, where it reads none, by memory and the sink alone
abbrev pub ExplainsAll : Option Command → Option (List ℕ) → Option (List ℕ) → Ran → Option (List ℕ) → Option (List ℕ) → Type 0
ExplainsAll (Some (command.Run summary)) left after ran before now = IsExplained left after ran.status ran.output
ExplainsAll (Some (command.Drill n)) left after ran before now = ExplainsDrill n ran.status ran.output
ExplainsAll (Some command.Check) left after ran before now = IsCheckExplained left after ran.status before now
ExplainsAll (Some (command.Make n)) left after ran before now = EndsWriting ran.status
ExplainsAll None left after ran before now = ran.status ≡ status.Usage
