use Rattle.script_maker.proofs.PlainLines.{reads_back}
use Rattle.script_maker.proofs.laws.plain_lines_read_back.Goals as goal

pub returns : goal.returns
returns c = reads_back
