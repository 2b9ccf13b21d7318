use Rattle.std.proofs.Common.{◌≡◌, ◌-◌}
use Rattle.query_lexemes.specs.Lexemes.{lexemes}
use Rattle.query_text.specs.Reads.{read_from, query_of}
use Rattle.query_text.proofs.reader.query_of.Given as goal

-- the rest reads to what the whole reads to
abbrev pub invariant-loop-turn : goal.invariant-loop-turn
invariant-loop-turn l =
    read_from (record { fields = l.schema.list; op = l.op }) l.most l.level l.outer (lexemes (l.turn-end - l.turn) l.end l.rest)
    ≡ query_of (record { fields = l.schema.list; op = l.op }) l.most l.fn.df l.end l.letters
