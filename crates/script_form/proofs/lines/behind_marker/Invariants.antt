use Rattle.std.proofs.Common.{◌≡◌, ◌≤◌, ◌-◌, length, drop}
use Rattle.script_form.specs.Lines.{has_marker, script_lines}
use Rattle.script_form.proofs.lines.behind_marker.Given as goal

abbrev pub invariant-loop-rest : goal.invariant-loop-rest
invariant-loop-rest l = record {
  marked : has_marker l.rest ≡ has_marker l.bytes;
  script : script_lines l.rest ≡ script_lines l.bytes;
  place : l.rest ≡ drop (length l.bytes - length l.rest) l.bytes;
  within : length l.rest ≤ length l.bytes;
}

abbrev pub decreases-loop-rest : goal.decreases-loop-rest
decreases-loop-rest l = length l.rest
