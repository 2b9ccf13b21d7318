-- For private clauses alone: which keys of a document are sought, and which texts.
use Rattle.std.specs.Prelude.{ℕ, List, Bool, true, not, ◌&&◌}
use Rattle.std.specs.List.{list_any}
use Rattle.field_schema.specs.declared.key.Key.{Key}
use Rattle.field_schema.specs.Keys.{key_eq}
use Rattle.field_schema.specs.Values.{values_at}
use Rattle.query_tree.specs.Matches.{has_prefix, has_words, is_above, is_below, is_empty}
use Rattle.query_eval.specs.declared.matching.Sought.{Sought}
use Rattle.query_eval.specs.declared.matching.Sought.TheVariants.{Any, This, Beginning, Between}

-- the key is sought
abbrev pub seeks : Sought → Key → Bool
seeks Any k = true
seeks (This sought) k = key_eq sought.now k
seeks (Beginning p) k = has_prefix p.now k
seeks (Between low high) k = is_above low.now k && is_below high.now k

-- there are words, and they stand in turn in one of its texts
abbrev pub says_words : List (List Key) → ℕ → List (List ℕ) → Bool
says_words doc field ws = not (is_empty ws) && list_any (has_words ws) (values_at doc field)
