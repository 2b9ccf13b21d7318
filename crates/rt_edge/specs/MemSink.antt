-- A sink that holds its bytes in memory.
use Rattle.std.specs.Prelude.{ℕ, ◌-◌, ◌≤◌, ◌⊎◌, Bool, true, false, min, List, ◌++◌, length, Contains}
use Rattle.rt_edge.specs.Faults.{one_more}

-- what a sink in memory is seen as
pub record SinkState : Type 0 where
  -- the bytes that it was given
  pub held : List ℕ
  -- the most bytes that it holds
  pub room : ℕ
  -- the most bytes that one write takes
  pub piece : ℕ
  -- the numbers of the writes that fail, from 0
  pub fails : List ℕ
  -- how many writes were made
  pub calls : ℕ
  -- how many of them failed
  pub faults : ℕ
  -- whether nothing was written since the last flush
  pub flushed : Bool

-- no byte more can be held
abbrev pub IsFull : SinkState → Type 0
IsFull sink = sink.room ≤ length sink.held

-- the next write fails
abbrev pub IsFailing : SinkState → Type 0
IsFailing sink = Contains sink.fails sink.calls ⊎ IsFull sink

-- how many of this many bytes a write takes
abbrev pub taken_count : SinkState → ℕ → ℕ
taken_count sink offered = min sink.piece (min offered (sink.room - length sink.held))

-- the sink after a write that took these bytes
abbrev pub after_taking : SinkState → List ℕ → SinkState
after_taking sink bytes = record sink { held = sink.held ++ bytes; calls = one_more sink.calls; flushed = false }

-- the sink after a write that failed
abbrev pub after_failed_write : SinkState → SinkState
after_failed_write sink = record sink { calls = one_more sink.calls; faults = one_more sink.faults }

-- the sink after a flush
abbrev pub after_flush : SinkState → SinkState
after_flush sink = record sink { flushed = true }
