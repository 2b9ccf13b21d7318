use Rattle.std.proofs.Common.{◌≡◌, ◌++◌, drop, map, string_bytes}
use Rattle.query_text.specs.Printing.{signed, part_text}
use Rattle.query_text.proofs.printing.+printing.Given as goal

-- the text so far and that of the other queries are the whole
abbrev pub invariant-write_signed-loop-query : goal.invariant-write_signed-loop-query
invariant-write_signed-loop-query l =
    string_bytes l.out ++ signed l.begun l.sign (map (part_text l.schema.list) (drop l.query-index l.queries))
    ≡ string_bytes l.initial.out ++ signed l.initial.begun l.sign (map (part_text l.schema.list) l.queries)
