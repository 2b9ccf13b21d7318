use Rattle.std.proofs.Common.{◌∙◌}
use Rattle.field_schema.proofs.Numbers.{parse_is_long_text}
use Rattle.field_schema.proofs.value_text.long_text.Goals as goal

pub returns : goal.returns
returns c = c.ok.ensures.value ∙ parse_is_long_text c.parse.result c.args.text.now c.parse.ensures.value.0
