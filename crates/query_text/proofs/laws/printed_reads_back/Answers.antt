use Rattle.query_text.proofs.ReadTexts.{prints_back}
use Rattle.query_text.proofs.laws.printed_reads_back.Goals as goal

pub returns : goal.returns
returns c = prints_back
