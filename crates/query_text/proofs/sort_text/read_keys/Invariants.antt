use Rattle.std.proofs.Common.{◌≡◌, ◌-◌}
use Rattle.query_text.specs.Sorts.{sort_from, letters_sort}
use Rattle.query_text.proofs.sort_text.read_keys.Given as goal

-- the keys so far and the rest read to what the whole reads to
abbrev pub invariant-loop-turn : goal.invariant-loop-turn
invariant-loop-turn l = sort_from (l.turn-end - l.turn) l.schema.list l.end l.keys.items l.rest ≡ letters_sort l.schema.list l.end l.letters
