use Rattle.doc_sets.proofs.FormOfSet.{listed_members, row_members, documents_in}
use Rattle.doc_sets.proofs.Members.{listing_of}
use Rattle.doc_sets.proofs.doc_set.DocSet.iter.Goals as goal

pub returns-in-Listed-clause-members : goal.returns-in-Listed-clause-members
returns-in-Listed-clause-members c = listed_members _ _ _ _ _ c.self.invariant.0 c.self.view_is c.in-Listed.is c.deref.ensures.value c.along_list.ensures

pub returns-in-Listed-clause-listing : goal.returns-in-Listed-clause-listing
returns-in-Listed-clause-listing c = listing_of c.args.self.now (documents_in _ _ c.self.invariant.0 c.self.view_is)

pub returns-in-Bits-clause-members : goal.returns-in-Bits-clause-members
returns-in-Bits-clause-members c = row_members _ _ _ _ _ c.self.invariant.0 c.self.view_is c.in-Bits.is c.deref-in-Bits.ensures.value c.along_row.ensures

pub returns-in-Bits-clause-listing : goal.returns-in-Bits-clause-listing
returns-in-Bits-clause-listing c = listing_of c.args.self.now (documents_in _ _ c.self.invariant.0 c.self.view_is)
