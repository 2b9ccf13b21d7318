use Rattle.std.proofs.Common.{sym, ap, ◌∙◌}
use Rattle.doc_sets.specs.BitRows.{numbers_of}
use Rattle.doc_sets.proofs.Lefts.{left_all, left_nothing}
use Rattle.doc_sets.proofs.walk.RowIter.new.Goals as goal

pub returns-in-Some : goal.returns-in-Some
returns-in-Some c = left_all _ _ ∙ ap numbers_of (sym c.in-Some.ensures.cases.0)

pub returns-in-None : goal.returns-in-None
returns-in-None c = left_nothing _ c.in-None.ensures.cases
