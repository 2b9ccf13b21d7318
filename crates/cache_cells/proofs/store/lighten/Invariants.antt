use Rattle.std.proofs.Common.{◌≡◌, ◌<◌, length, take, drop}
use Rattle.cache_machine.specs.Machine.{light_front}
use Rattle.cache_machine.specs.Laws.{weight_of}
use Rattle.cache_cells.proofs.store.lighten.Given as goal

abbrev pub invariant-loop-rest : goal.invariant-loop-rest
invariant-loop-rest g l = record {
  some : 0 < length l.entries.entries;
  cap : l.entries.cap ≡ l.initial.entries.cap;
  weighs : l.rest ≡ weight_of g.V.Value.weight (drop 1 l.entries.entries);
  first : take 1 l.entries.entries ≡ take 1 l.initial.entries.entries;
  front : light_front g.V.Value.weight l.most (drop 1 l.entries.entries) ≡ light_front g.V.Value.weight l.most (drop 1 l.initial.entries.entries);
}

abbrev pub decreases-loop-rest : goal.decreases-loop-rest
decreases-loop-rest g l = length l.entries.entries
