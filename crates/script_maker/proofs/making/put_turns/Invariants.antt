use Rattle.std.proofs.Common.{◌≡◌, ◌<◌, ◌^◌, string_bytes}
use Rattle.script_maker.specs.Growing.{Grows}
use Rattle.script_maker.specs.Made.{number_before, turns}
use Rattle.script_maker.specs.Written.{script_text}
use Rattle.script_maker.proofs.making.put_turns.Given as goal

-- the lines of the turns so far are written, and x is the number behind them
abbrev pub invariant-loop-index : goal.invariant-loop-index
invariant-loop-index l = record {
  written : Grows (string_bytes l.fn.out) (string_bytes l.out) (script_text (turns l.n l.index));
  number : l.x ≡ number_before l.n l.index;
  small : l.x < 2 ^ 31;
}
