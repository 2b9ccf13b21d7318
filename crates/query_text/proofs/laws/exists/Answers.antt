use Rattle.query_text.proofs.Tops.{exists_prints}
use Rattle.query_text.proofs.laws.exists.Goals as goal

pub returns : goal.returns
returns c = exists_prints
