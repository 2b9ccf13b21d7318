use Rattle.std.proofs.Common.{◌≡◌, ◌≤◌, ◌++◌, length, vec_len}
use Rattle.std.specs.Map.{keys_of}
use Rattle.filter_cache.proofs.filter_cells.FilterCells.recent.Given as goal

abbrev pub invariant-loop-key : goal.invariant-loop-key
invariant-loop-key l = record {
  so_far : l.keys.items ++ keys_of l.key-iterator ≡ keys_of l.self.kept.entries;
  few : vec_len l.keys ≤ l.n;
}
