-- The program's output as the laws see it.
use Rattle.std.specs.Prelude.{ℕ, ◌<◌, List, map}
use Rattle.script_form.specs.declared.config.Config.{Config}
use Rattle.script_form.specs.declared.script.Line.{Line}
use Rattle.run_laws.specs.Rows as plain
use Rattle.run_laws.specs.Lawful.{Ascends, Lawful}
use Rattle.client_runner.specs.declared.rows.Output.{Output}

abbrev pub output_view : Output → plain.Output
output_view o = record { requests = o.requests; searchers = o.searchers }

-- some output is lawful for a script whose lines ascend, where a searcher may be warming
abbrev pub HasLawfulOutput : Config → List Line → Type 0
HasLawfulOutput c script =
    0 < c.max_warming → Ascends (map (λ l. l.number) script) → (o : plain.Output) × Lawful c script o
