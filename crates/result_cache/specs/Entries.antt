-- Results as values of a cache.
use Rattle.std.specs.Prelude.{ℕ, ◌+◌, Bool, ◌||◌, ◌==◌, length, nat_le}
use Rattle.result_cache.specs.declared.entry.Entry.{Entry}

-- what an entry weighs: 1, and 1 for each document that it lists
abbrev pub result_weight : Entry → ℕ
result_weight e = 1 + length e.ids

-- the entry lists enough documents, or all that were found
abbrev pub serves : ℕ → Entry → Bool
serves need e = nat_le need (length e.ids) || (length e.ids == e.found)

-- it lists few enough to be kept
abbrev pub is_short : ℕ → Entry → Bool
is_short most e = nat_le (length e.ids) most
