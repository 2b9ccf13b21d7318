use Rattle.std.proofs.Common.{◌≡◌, map, take}
use Rattle.query_eval.proofs.phrase.documents.Given as goal

abbrev pub invariant-loop-position : goal.invariant-loop-position
invariant-loop-position l = l.numbers.items ≡ map (λ p. p.doc) (take l.position-index l.positions)
