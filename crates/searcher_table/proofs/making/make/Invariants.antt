use Rattle.std.proofs.Common.{◌≡◌, ◌≤◌, ◌+◌, length, vec_capacity}
use Rattle.searcher_table.specs.Making.{ArePassesOf, next_of}
use Rattle.searcher_table.specs.Registrars.{plan_of}
use Rattle.searcher_table.proofs.making.make.Given as goal

abbrev pub invariant-loop-caller : goal.invariant-loop-caller
invariant-loop-caller g l = record {
  room : l.callers ≤ vec_capacity l.passes;
  next : next_of l.registrar ≡ length l.passes.items + 1;
  count : length l.passes.items + 1 ≡ l.caller;
  plan : plan_of l.registrar ≡ plan_of l.initial.registrar;
  passes : ArePassesOf l.registrar l.passes.items;
}
