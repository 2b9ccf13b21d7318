use Rattle.std.proofs.Common.{length, sym, ap, ◌∙◌}
use Rattle.doc_sets.proofs.FormOfSet.{len_in, members_in, documents_in}
use Rattle.doc_sets.proofs.doc_set.DocSet.len.Goals as goal

pub returns-clause-count : goal.returns-clause-count
returns-clause-count c = c.self.invariant.1 ∙ sym (len_in _ _ c.self.invariant.0 c.self.view_is)

pub returns-clause-members : goal.returns-clause-members
returns-clause-members c = c.self.invariant.1 ∙ ap length (sym (members_in _ _ c.self.invariant.0 c.self.view_is))

pub returns-clause-documents : goal.returns-clause-documents
returns-clause-documents c = documents_in _ _ c.self.invariant.0 c.self.view_is
