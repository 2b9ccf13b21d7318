use Rattle.std.proofs.Common.{◌∙◌}
use Rattle.script_counts.proofs.CheckLine.{line_is}
use Rattle.script_counts.proofs.counting.line_of.Goals as goal

-- the pieces behind nothing
pub returns : goal.returns
returns c = c.new.ensures ∙ cc (c.in_ok-write.ensures.bytes, c.new-out.ensures.bytes, line_is c.args.counts)
