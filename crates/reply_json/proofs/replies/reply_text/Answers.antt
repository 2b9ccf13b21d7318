use Rattle.std.proofs.Common.{◌∙◌, ap}
use Rattle.serde_json.specs.Written.{has_float}
use Rattle.reply_json.proofs.Floats.{whole_answer}
use Rattle.reply_json.proofs.replies.reply_text.Goals as goal

-- no part of the reply is a float
pub text_of-requires : goal.text_of-requires
text_of-requires c =
    ap has_float c.in_ok-value.ensures ∙ whole_answer c.args.schema.now c.args.fields.now c.args.answer.now
