use Rattle.std.proofs.Common.{◌≡◌, ◌∷◌, [], map}
use Rattle.query_tree.specs.declared.query.Query.TheVariants as query
use Rattle.query_text.proofs.value.one_by_one.Given as goal

-- the queries of the words so far
abbrev pub invariant-loop-word : goal.invariant-loop-word
invariant-loop-word l = l.queries.items ≡ map (λ w. query.Words l.field (w ∷ [])) l.yielded
