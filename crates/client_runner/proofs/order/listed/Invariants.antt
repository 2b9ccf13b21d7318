use Rattle.std.proofs.Common.{◌≡◌, ◌≤◌, ◌++◌, drop}
use Rattle.client_runner.specs.RunOrder.{turns_from}
use Rattle.client_runner.proofs.order.listed.Given as goal

-- the turns of the lines so far, and those of the others are left
abbrev pub invariant-loop-index : goal.invariant-loop-index
invariant-loop-index l = record {
  turns : l.turns.items ++ turns_from l.phase l.index (drop l.index l.script) ≡ turns_from 0 0 l.script;
  phase : l.phase ≤ l.index;
}
