use Rattle.std.proofs.Common.{◌≡◌, ◌≤◌, ◌++◌, ℕ, List, length}
use Rattle.std.specs.Io.KnownBytes.{Appends}
use Rattle.solr_cli.specs.Writing.{TellsFlushes}
use Rattle.solr_cli.proofs.writing.write_all.Given as goal

-- a front was written, and the rest is left
abbrev pub invariant-loop-rest : goal.invariant-loop-rest
invariant-loop-rest g l = record {
  faults : g.K.Sink.faults l.out ≡ g.K.Sink.faults l.initial.out;
  flushed : TellsFlushes (g.K.Sink.flushed l.initial.out) (g.K.Sink.flushed l.out);
  front : (done : List ℕ) × (l.text ≡ done ++ l.rest) × Appends (g.K.Sink.held l.initial.out) (g.K.Sink.held l.out) done;
}

abbrev pub decreases-loop-rest : goal.decreases-loop-rest
decreases-loop-rest g l = length l.rest
