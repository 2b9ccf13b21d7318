use Rattle.std.proofs.Common.{◌≡◌, ◌<◌, ◌^◌, true, sym, ◌∙◌, arith}
use Rattle.script_form.specs.Decimals.{is_decimal}
use Rattle.script_form.proofs.Decimals.{unread}
use Rattle.script_form.proofs.decimal.decimal_within.Goals as goal

pub returns-in_err-number : goal.returns-in_err-number
returns-in_err-number c =
    let is : is_decimal c.args.text.now ≡ true = sym c.is_decimal.ensures ∙ c.if-not-is_decimal.false in
    let fits : c.args.high < 2 ^ 32 = omega arith in
    c.from_residual.ensures ∙ unread c.parse.result c.args.text.now c.args.low c.args.high is fits c.parse.ensures.value.0 c.in_err-number.ensures.value
