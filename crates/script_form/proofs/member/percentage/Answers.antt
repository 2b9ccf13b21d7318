use lib.Utf8.{encode}
use Rattle.script_form.proofs.Decimals.{no_percent}
use Rattle.script_form.proofs.member.percentage.Goals as goal

pub returns-in_err-strip_suffix : goal.returns-in_err-strip_suffix
unfolding encode
returns-in_err-strip_suffix c = rw (c.from_residual.ensures, no_percent c.args.text.now c.in_err-strip_suffix.ensures.cases)
