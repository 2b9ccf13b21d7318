use Rattle.std.proofs.Common.{◌≡◌, length, vec_capacity}
use Rattle.std.specs.Arc.{arc_value}
use Rattle.searcher_table.specs.Spares.{AreAt}
use Rattle.searcher_table.proofs.making.links.Given as goal

abbrev pub invariant-loop : goal.invariant-loop
invariant-loop g l = record {
  room : vec_capacity l.made ≡ l.count;
  len : length l.made.items ≡ l.counter;
  table : AreAt (arc_value l.fn.table).shared.table_id l.made.items;
}
