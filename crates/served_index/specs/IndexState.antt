-- What contracts see of an index.
use Rattle.std.specs.Prelude.{ℕ, List}
use Rattle.doc_model.specs.Document.{Document}

-- the documents that stand and those that the current searcher sees, both in index order; and how many document numbers
-- are taken
pub record IndexState : Type 0 where
  pub docs : List Document
  pub served : List Document
  pub numbers : ℕ
