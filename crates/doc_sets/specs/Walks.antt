-- For private clauses alone: what is left of a walk along a set.
use Rattle.std.specs.Prelude.{ℕ, List}
use Rattle.doc_sets.specs.declared.walk.Walk.{Walk}
use Rattle.doc_sets.specs.declared.walk.Walk.TheVariants.{Listed, Bits}

-- the numbers that are left
abbrev pub walk_left : Walk → List ℕ
walk_left (Listed numbers) = numbers.now
walk_left (Bits row) = row
