use Rattle.std.proofs.Common.{◌≡◌, ◌≤◌, length, vec_capacity}
use Rattle.std.specs.List.{AllByRecursion}
use Rattle.searcher_table.specs.declared.board.Cell.TheVariants.{Empty}
use Rattle.searcher_table.proofs.making.empty_cells.Given as goal

abbrev pub invariant-loop : goal.invariant-loop
invariant-loop g l = record { room : l.count ≤ vec_capacity l.cells; len : length l.cells.items ≡ l.counter; empty : AllByRecursion (λ x. x ≡ Empty) l.cells.items }
