use Rattle.query_text.proofs.Tops.{words_print}
use Rattle.query_text.proofs.laws.words.Goals as goal

pub returns : goal.returns
returns c = words_print
