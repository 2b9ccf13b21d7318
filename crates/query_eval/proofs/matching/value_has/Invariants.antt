use Rattle.std.proofs.Common.{◌≡◌, false}
use Rattle.std.specs.List.{list_any}
use Rattle.field_schema.specs.declared.key.Key.TheVariants as key
use Rattle.query_eval.specs.Sought.{seeks}
use Rattle.query_eval.proofs.matching.value_has.Given as goal

abbrev pub invariant-loop-token : goal.invariant-loop-token
invariant-loop-token l =
    (list_any (λ t. seeks l.sought (key.Token t)) l.yielded ≡ false) ×
    (goal.iterator-loop-token).can_next l.token-iterator ×
    (goal.iterator-loop-token).is_finite l.token-iterator
