use Rattle.std.proofs.Common.{◌≡◌, ◌≤◌, length, vec_capacity}
use Rattle.searcher_table.specs.Spares.{AreRooms}
use Rattle.searcher_table.proofs.making.rooms.Given as goal

abbrev pub invariant-loop : goal.invariant-loop
invariant-loop g l = record { room : l.count ≤ vec_capacity l.rows; len : length l.rows.items ≡ l.counter; rooms : AreRooms l.callers l.rows.items }
