use Rattle.std.proofs.Common.{◌∙◌}
use Rattle.script_maker.proofs.Joins.{made_is}
use Rattle.script_maker.proofs.making.make.Goals as goal

-- the head behind nothing, the turns behind it, and the last lines behind these
pub returns : goal.returns
returns c =
    c.new.ensures ∙ made_is c.args.n c.new-out.ensures.bytes c.in_ok-put_head.ensures c.in_ok-put_turns.ensures c.in_ok-put_last.ensures
