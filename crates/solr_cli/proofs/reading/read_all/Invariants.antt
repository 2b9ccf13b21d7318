use Rattle.std.proofs.Common.{◌≡◌, ◌≤◌, ◌+◌, length}
use Rattle.std.specs.Io.KnownBytes.{Consumes}
use Rattle.script_form.specs.Lines.{most_input}
use Rattle.solr_cli.proofs.reading.read_all.Given as goal

-- what was read so far, at least a byte a turn
abbrev pub invariant-loop-turn : goal.invariant-loop-turn
invariant-loop-turn g l = record {
  faults : g.S.Source.faults l.input ≡ g.S.Source.faults l.initial.input;
  taken : Consumes (g.S.Source.left l.initial.input) (g.S.Source.left l.input) l.bytes.items;
  turns : l.turn ≤ length l.bytes.items;
  within : length l.bytes.items ≤ most_input + 1;
}
