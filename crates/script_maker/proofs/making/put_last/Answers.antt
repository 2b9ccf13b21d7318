use Rattle.std.specs.Fmt.{digits}
use Rattle.script_maker.proofs.making.put_last.Goals as goal

pub returns : goal.returns
unfolding digits
returns c = c.put.ensures
