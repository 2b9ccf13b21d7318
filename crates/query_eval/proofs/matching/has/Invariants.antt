use Rattle.std.proofs.Common.{◌≡◌, false, take}
use Rattle.std.specs.List.{list_any}
use Rattle.query_tree.specs.KeysOfDocs.{keys_of_value}
use Rattle.query_eval.specs.Sought.{seeks}
use Rattle.query_eval.proofs.matching.has.Given as goal

abbrev pub invariant-loop-value : goal.invariant-loop-value
invariant-loop-value l = list_any (λ v. list_any (seeks l.sought) (keys_of_value v)) (take l.value-index l.value-items) ≡ false
