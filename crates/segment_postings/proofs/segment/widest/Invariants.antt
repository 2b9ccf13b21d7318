use Rattle.std.proofs.Common.{◌≤◌, ◌<◌, ℕ, length, get_or, map}
use Rattle.std.specs.Arc.{arc_value}
use Rattle.doc_model.specs.Document.{Document}
use Rattle.segment_postings.proofs.segment.widest.Given as goal

abbrev pub invariant-loop-doc : goal.invariant-loop-doc
invariant-loop-doc l = (k : ℕ) (d : Document) → k < l.doc-index → length (get_or (map arc_value l.docs) k d).values ≤ l.width
