use Rattle.std.proofs.Common.{sym, ◌∙◌}
use Rattle.doc_sets.proofs.FormOfSet.{listed_answer, row_answer, documents_in}
use Rattle.doc_sets.proofs.doc_set.DocSet.has.Goals as goal

pub returns-in-Listed-clause-member : goal.returns-in-Listed-clause-member
returns-in-Listed-clause-member c = listed_answer _ _ _ _ _ _ c.self.view_is c.in-Listed.is c.deref.ensures.value c.has.ensures

pub returns-in-Listed-clause-document : goal.returns-in-Listed-clause-document
returns-in-Listed-clause-document c has =
    documents_in _ _ c.self.invariant.0 c.self.view_is _ (sym (listed_answer _ _ _ _ _ _ c.self.view_is c.in-Listed.is c.deref.ensures.value c.has.ensures) ∙ has)

pub returns-in-Bits-clause-member : goal.returns-in-Bits-clause-member
returns-in-Bits-clause-member c = row_answer _ _ _ _ _ _ c.self.view_is c.in-Bits.is c.deref-in-Bits.ensures.value c.has-in-Bits.ensures

pub returns-in-Bits-clause-document : goal.returns-in-Bits-clause-document
returns-in-Bits-clause-document c has =
    documents_in _ _ c.self.invariant.0 c.self.view_is _ (sym (row_answer _ _ _ _ _ _ c.self.view_is c.in-Bits.is c.deref-in-Bits.ensures.value c.has-in-Bits.ensures) ∙ has)
