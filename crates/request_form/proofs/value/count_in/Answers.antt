use Rattle.std.proofs.Common.{◌≡◌, ◌<◌, true, length, sym, ◌∙◌, arith}
use Rattle.std.specs.Str.{all_ascii_digits}
use Rattle.request_form.proofs.Counts.{uncounted}
use Rattle.request_form.proofs.value.count_in.Goals as goal

pub returns-in_err-count : goal.returns-in_err-count
returns-in_err-count c =
    let digits : all_ascii_digits c.args.value.now ≡ true = sym c.are_digits.ensures ∙ c.if-not-are_digits.false in
    let some : 0 < length c.args.value.now = grind arith in
    c.from_residual.ensures ∙ uncounted c.parse.result c.args.value.now some digits c.parse.ensures.value.0 c.in_err-count.ensures.value
