use Rattle.run_laws.proofs.Alone.{another_document_alone}
use Rattle.run_laws.proofs.trials.reply_with_another_document_is_unlawful.Goals as goal

pub returns-clause-unlawful : goal.returns-clause-unlawful
returns-clause-unlawful c h = another_document_alone.breaks h.answered

pub returns-clause-alone : goal.returns-clause-alone
returns-clause-alone c = another_document_alone
