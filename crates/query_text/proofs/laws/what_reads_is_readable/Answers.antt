use Rattle.query_text.proofs.ReadTexts.{what_reads}
use Rattle.query_text.proofs.laws.what_reads_is_readable.Goals as goal

pub returns : goal.returns
returns c = what_reads
