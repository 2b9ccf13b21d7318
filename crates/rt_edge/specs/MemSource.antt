-- A source that gives bytes from memory.
use Rattle.std.specs.Prelude.{ℕ, min, List, length, drop}
use Rattle.rt_edge.specs.Faults.{one_more}

-- what a source in memory is seen as
pub record SourceState : Type 0 where
  -- the bytes that it has not given
  pub left : List ℕ
  -- the most bytes that one read gives
  pub piece : ℕ
  -- the numbers of the reads that fail, from 0
  pub fails : List ℕ
  -- how many reads were made
  pub calls : ℕ
  -- how many of them failed
  pub faults : ℕ

-- how many bytes a read with this much room gives
abbrev pub given_count : SourceState → ℕ → ℕ
given_count source room = min source.piece (min room (length source.left))

-- the source after a read that gave n bytes
abbrev pub after_giving : SourceState → ℕ → SourceState
after_giving source n = record source { left = drop n source.left; calls = one_more source.calls }

-- the source after a read that failed
abbrev pub after_failed_read : SourceState → SourceState
after_failed_read source = record source { calls = one_more source.calls; faults = one_more source.faults }
