use Rattle.query_text.proofs.Tops.{term_prints}
use Rattle.query_text.proofs.laws.term.Goals as goal

pub returns : goal.returns
returns c = term_prints
