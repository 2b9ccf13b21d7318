use Rattle.std.proofs.Common.{sym, ◌∙◌}
use Rattle.query_eval.proofs.Parts.{stands_here}
use Rattle.query_eval.proofs.matching.stands.Goals as goal

pub returns-then-starts_with : goal.returns-then-starts_with
returns-then-starts_with c =
    sym (stands_here c.args.words.now c.tokens.rest.now (sym c.if-starts_with.ensures.value))
    ∙ c.tokens.invariant
