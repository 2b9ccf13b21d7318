use Rattle.sort_order.proofs.Ordered.{keeps_documents, ascends}
use Rattle.sort_order.proofs.laws.documents_stand_in_order.Goals as goal

pub returns-clause-same : goal.returns-clause-same
returns-clause-same c = keeps_documents

pub returns-clause-ascends : goal.returns-clause-ascends
returns-clause-ascends c = ascends
