use Rattle.std.proofs.Common.{sym, ◌∙◌}
use Rattle.std.proofs.lemmas.Bool.{true≢false}
use Rattle.script_form.proofs.Values.{value_in_text, value_in_none}
use Rattle.script_form.proofs.config.read_value.Goals as goal

pub returns-in-Ok : goal.returns-in-Ok
returns-in-Ok c = sym (value_in_text c.args.text.now c.in-Ok.ensures.ok.0 ∙ c.in-Ok.ensures.ok.1)

pub returns-in-Err-2 : goal.returns-in-Err-2
returns-in-Err-2 c = sym (value_in_none c.args.text.now (c.in-Err.ensures.err (λ h. true≢false (sym (c.is_memory.ensures.1 h) ∙ c.if-is_memory.false))))
