use Rattle.std.proofs.Common.{◌≡◌, ◌≤◌, length}
use Rattle.std.specs.Str.Lines.{lines}
use Rattle.script_form.specs.Lines.{lines_too_large, most_lines}
use Rattle.script_form.proofs.Limits.{passes}
use Rattle.script_form.proofs.lines.lines_pass_limit.Given as goal

abbrev pub invariant-loop-rest : goal.invariant-loop-rest
invariant-loop-rest l = record {
  left : lines_too_large (lines l.script) ≡ passes l.count (lines l.rest);
  few : l.count ≤ most_lines;
}

abbrev pub decreases-loop-rest : goal.decreases-loop-rest
decreases-loop-rest l = length l.rest
