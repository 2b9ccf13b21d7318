use Rattle.std.proofs.Common.{◌≡◌, ◌≤◌, ◌++◌, vec_len}
use Rattle.std.specs.Map.{keys_of}
use Rattle.cache_traces.proofs.cells.newest.Given as goal

abbrev pub invariant-loop-number : goal.invariant-loop-number
invariant-loop-number g l = record {
  so_far : l.numbers.items ++ keys_of l.number-iterator ≡ keys_of l.cells.kept.entries;
  few : vec_len l.numbers ≤ l.most;
}
