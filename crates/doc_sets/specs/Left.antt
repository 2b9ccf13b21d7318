-- For private clauses alone: what is left of a walk along a row.
use Rattle.std.specs.Prelude.{ℕ, ◌+◌, List, ◌∷◌, map}
use Rattle.doc_sets.specs.BitRows.{numbers_of}

-- the numbers of a word and the words after it, where the word's lowest bit stands for `base`
unfoldable pub numbers_left : ℕ → ℕ → List ℕ → List ℕ
numbers_left base word words = map (λ n. base + n) (numbers_of (word ∷ words))
