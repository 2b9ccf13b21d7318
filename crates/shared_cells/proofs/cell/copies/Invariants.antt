use Rattle.std.proofs.Common.{◌≡◌, Some, take}
use Rattle.cache_traces.specs.Named.{all_named}
use Rattle.shared_cells.proofs.cell.copies.Given as goal

abbrev pub invariant-loop-number : goal.invariant-loop-number
invariant-loop-number g l = all_named l.cells.keys (take l.number-index l.numbers) ≡ Some l.keys.items
