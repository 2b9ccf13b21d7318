use Rattle.std.proofs.Common.{◌≡◌, ◌+◌, take, length}
use Rattle.std.specs.List.{sum_by}
use Rattle.doc_model.proofs.doc.Doc.count_within.Given as goal

abbrev pub invariant-loop-values : goal.invariant-loop-values
invariant-loop-values l = l.left + sum_by (λ v. length v.items) (take l.values-index l.values-items) ≡ l.most
