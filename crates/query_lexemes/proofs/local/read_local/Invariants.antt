use Rattle.std.proofs.Common.{◌≡◌, ◌-◌}
use Rattle.query_lexemes.specs.Local.{local, local_items}
use Rattle.query_lexemes.proofs.local.read_local.Given as goal

-- the rest reads to what the whole reads to
abbrev pub invariant-loop-turn : goal.invariant-loop-turn
invariant-loop-turn l = local_items (l.turn-end - l.turn) l.end l.items l.rest ≡ local l.end l.letters
