use Rattle.std.proofs.Common.{◌∙◌}
use Rattle.query_lexemes.proofs.Numbers.{parse_is_int_text}
use Rattle.query_lexemes.proofs.local.int_text.Goals as goal

pub returns : goal.returns
returns c = c.ok.ensures.value ∙ parse_is_int_text c.parse.result c.args.text.now c.parse.ensures.value.0
