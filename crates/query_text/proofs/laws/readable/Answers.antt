use Rattle.query_text.proofs.Readables.{readable_prints}
use Rattle.query_text.proofs.laws.readable.Goals as goal

pub returns : goal.returns
returns c = readable_prints
