use Rattle.doc_model.proofs.Again.{shown_reads_again}
use Rattle.doc_model.proofs.laws.shown_reads_again.Goals as goal

pub returns : goal.returns
returns c = shown_reads_again
