use Rattle.std.proofs.Common.{◌≡◌, drop}
use Rattle.doc_model.specs.ReadDoc.{too_long}
use Rattle.doc_model.proofs.object.too_long.Given as goal

abbrev pub invariant-loop-value : goal.invariant-loop-value
invariant-loop-value l = too_long l.values ≡ too_long (drop l.value-index l.values)
