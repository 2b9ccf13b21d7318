use Rattle.query_text.proofs.Tops.{all_prints}
use Rattle.query_text.proofs.laws.all.Goals as goal

pub returns : goal.returns
returns c = all_prints
