use Rattle.std.proofs.Common.{◌≡◌, ◌+◌, ◌≤◌, ◌<◌, ◌^◌, length}
use Rattle.std.specs.Str.Lines.{lines}
use Rattle.script_form.specs.ReadScript.{front_from, most_clients}
use Rattle.script_form.proofs.Scripts.{onto}
use Rattle.script_form.proofs.script.read_front.Given as goal

abbrev pub invariant-loop-rest : goal.invariant-loop-rest
invariant-loop-rest l = record {
  left : onto l.read.items (front_from most_clients (l.number + 1) (lines l.rest)) ≡ front_from most_clients 1 (lines l.bytes);
  numbers : l.number + length l.rest ≤ length l.bytes;
  most : length l.bytes < 2 ^ 32;
}

abbrev pub decreases-loop-rest : goal.decreases-loop-rest
decreases-loop-rest l = length l.rest
